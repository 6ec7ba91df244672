-- Laws of a row that is painted.
pub mod RowLaws
pub mod FineLaws
pub mod TopLaws
