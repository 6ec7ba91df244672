-- Laws of walks over boxes.
pub mod WalkLaws
