-- PixelLevels as the meter gives them.
pub mod Level
