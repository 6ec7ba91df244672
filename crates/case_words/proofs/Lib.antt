-- Laws of planes that are read.
pub mod PlaneLaws
