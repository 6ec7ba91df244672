-- Laws of the command line's words.
pub mod WordsLaws
