-- What H.273's code points mean, edition by edition.
pub mod Edition
pub mod Matrix
pub mod Label
pub mod Standing
