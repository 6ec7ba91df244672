-- Requests in words.
pub mod Form
