-- Laws of the luma matrices that belong to no one function.
pub mod Formulas
pub mod Writing
pub mod Bounds
pub mod Fitting
pub mod Pixels
pub mod Numerators
pub mod Solves
