-- The image check.
pub mod Image
