-- Laws of lines that run with the light.
pub mod Following
pub mod Mixing
pub mod Finding
