-- Laws of words, of numbers and of writing.
pub mod WordLaws
pub mod NumeralLaws
pub mod WritingLaws
