-- The arithmetic of YCgCo, and what follows for whole pixels.
pub mod Arithmetic
pub mod Middle
pub mod Lossless
pub mod Insides
