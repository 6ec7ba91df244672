-- Laws of plans for many pixels.
pub mod RowPlanLaws
