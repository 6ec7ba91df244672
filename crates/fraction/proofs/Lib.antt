-- Laws of the fractions.
pub mod Same
pub mod Value
