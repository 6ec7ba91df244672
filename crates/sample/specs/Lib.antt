-- Depths, in whole numbers, and flags as numbers.
pub mod Depth
pub mod Flag
