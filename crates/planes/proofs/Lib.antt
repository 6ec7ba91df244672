-- Laws of sizes and of planes.
pub mod SizeLaws
pub mod SizeTheorems
pub mod Parts
pub mod Painted
pub mod PlaneTheorems
