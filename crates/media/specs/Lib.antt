-- Where boxes lie in a file, and what its colour records come to.
pub mod Inside
pub mod Counts
pub mod Kinds
pub mod Saying
pub mod SaidIn
