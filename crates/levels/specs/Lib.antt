-- The level matrices: equations by coefficients, the printed ones of the luma matrices, the pixels that they give, and the one form in
-- which the code computes them.
pub mod Equations
pub mod Paper
pub mod Conversion
pub mod Lines
pub mod Room
