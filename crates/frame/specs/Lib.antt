-- Whole frames.
pub mod Frame
