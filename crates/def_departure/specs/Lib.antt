pub mod Departures
pub mod Laws
