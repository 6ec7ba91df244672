-- The fractions in which the luma formulas are written.
pub mod Fraction
