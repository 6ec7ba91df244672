-- A row of pixels.
pub mod Row
