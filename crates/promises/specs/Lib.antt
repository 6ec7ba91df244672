-- What is promised of each kind of call, by what its answer means. The proofs show it of every entry point and of every export.
pub mod Refusing
pub mod Lossless
pub mod Pixels
pub mod Frames
pub mod Images
pub mod Judging
pub mod Labels
pub mod Records
pub mod Editions
