-- What a colour record is, and which of two wins.
pub mod Record
pub mod Choice
