-- The conversion of a pixel, what a plan of it does, and which pixels have a source.
pub mod Conversion
pub mod Plan
pub mod Source
