-- What the words of a case line come to, where it has planes.
pub mod Lines
