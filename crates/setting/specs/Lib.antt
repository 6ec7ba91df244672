-- Settings, in the order in which the rules speak of them.
pub mod Call
pub mod Edition
pub mod Agreement
pub mod Rules
pub mod Ready
