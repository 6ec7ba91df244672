-- A pixel's three samples from its light.
pub mod Numbers
pub mod Scaled
pub mod Light
