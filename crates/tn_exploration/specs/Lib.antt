pub mod Searches
pub mod Requests
pub mod Questions
