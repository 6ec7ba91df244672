-- Laws of frames.
pub mod PaintLaws
pub mod FrameLaws
