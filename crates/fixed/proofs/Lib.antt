-- Laws of fixed point that belong to no one function.
pub mod Floors
pub mod Standing
pub mod Carrying
pub mod Dividing
pub mod Reducing
pub mod Finishing
