-- Laws of plans, and of the conversions that they are for.
pub mod PlanLaws
pub mod ConversionTheorems
pub mod SourceLaws
