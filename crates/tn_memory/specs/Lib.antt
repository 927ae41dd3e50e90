pub mod History
pub mod Count
pub mod Memory
