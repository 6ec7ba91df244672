-- Laws of samples that run evenly with a number.
pub mod Scaling
pub mod Lights
pub mod Numbering
pub mod Preparing
