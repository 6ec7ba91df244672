-- What the box answers to a request.
pub mod Answers
