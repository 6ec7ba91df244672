-- What the counter makes of a level.
pub mod Millionths
