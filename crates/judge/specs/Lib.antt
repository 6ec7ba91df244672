-- How a claimed picture is judged.
pub mod Judge
