-- Lists by what stands at each index.
pub mod Table
