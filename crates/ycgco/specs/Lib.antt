-- YCgCo, lossy and lossless.
pub mod YCgCo
