-- How two rows are compared.
pub mod Count
pub mod Compare
