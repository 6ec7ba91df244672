-- Laws of comparing.
pub mod CountLaws
pub mod CompareLaws
