-- A row, tested and painted.
pub mod Paint
