-- A level line in fixed point: when numbers stand for a line, when words have room for its sums, and what each step of working the words
-- out has found.
pub mod Numbers
pub mod Words
pub mod Steps
