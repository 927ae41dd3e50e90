pub mod Query
pub mod SearchStates
pub mod Searches
