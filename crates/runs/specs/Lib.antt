-- The light of a pixel, and lines that run with it.
pub mod Light
pub mod Found
