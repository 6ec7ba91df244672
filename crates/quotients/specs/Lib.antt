-- The samples of a pixel where each is a whole number over another.
pub mod Parts
pub mod Quotients
pub mod Exact
pub mod Standing
