-- The rules of each kind of call.
pub mod Rules
