pub mod Readings
pub mod Terms
pub mod Listings
