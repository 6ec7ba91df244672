-- What a refusal is, and how the first of a list of rules is found.
pub mod Rules
