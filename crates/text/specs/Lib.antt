-- Texts as lists of bytes: words in them, numbers, and what writing leaves in a buffer.
pub mod Words
pub mod Numerals
pub mod Writing
