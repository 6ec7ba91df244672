-- Laws of the meter's levels.
pub mod Exact
pub mod Scales
pub mod Edges
