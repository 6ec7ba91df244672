-- Laws of colour records, and of the choice between two.
pub mod RecordLaws
pub mod ChoiceLaws
pub mod TripLaws
