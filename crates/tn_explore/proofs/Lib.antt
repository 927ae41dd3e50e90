pub mod Lists
pub mod Layers
pub mod Tries
pub mod Observations
pub mod Searches
