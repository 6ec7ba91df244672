-- Boxes and where they lie.
pub mod Boxes
pub mod Placed
