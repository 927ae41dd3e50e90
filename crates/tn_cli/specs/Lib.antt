pub mod Requests
pub mod Formats
pub mod Bounds
