-- Laws of the whole numbers that belong to no one function.
pub mod Difference
pub mod FromParts
pub mod Edges
pub mod Quotients
pub mod Rounding
pub mod Floors
pub mod Lifted
