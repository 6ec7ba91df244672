-- Laws of quotients.
pub mod Exactness
pub mod Reaching
pub mod Testing
pub mod Dividing
pub mod Preparing
pub mod Standing
