pub mod Departures
pub mod Rows
