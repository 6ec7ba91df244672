-- Laws of rows.
pub mod RowLaws
pub mod BackLaws
pub mod RunLaws
