-- What each call answers.
pub mod Answers
pub mod Packing
pub mod Meaning
pub mod After
pub mod RecordPacking
