-- What every other crate means by Round, Clip and ">> 1".
pub mod Rounding
pub mod Quotient
pub mod Common
