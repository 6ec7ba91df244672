-- Laws of lists by what stands at each index.
pub mod Tables
