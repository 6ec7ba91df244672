-- The length of a file.
pub mod Length
