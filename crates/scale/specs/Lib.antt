-- What samples of each kind stand for, and how a level is written as one.
pub mod Scale
