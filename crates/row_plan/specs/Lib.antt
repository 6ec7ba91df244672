-- A plan for many pixels.
pub mod RowPlan
