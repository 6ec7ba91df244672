-- Laws of depths, of flags, and of choices by a test.
pub mod Choices
pub mod FlagLaws
pub mod DepthLaws
