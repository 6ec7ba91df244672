-- The limits of sizes, and what a plane, three planes and a picture hold.
pub mod Sizes
pub mod Plane
pub mod Three
pub mod Picture
pub mod Shown
