-- Laws of searches.
pub mod Searches
pub mod Walks
pub mod SearchTheorems
