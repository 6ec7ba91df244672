-- Laws of judging.
pub mod PlaceLaws
pub mod RunLaws
pub mod PictureLaws
pub mod JudgeLaws
