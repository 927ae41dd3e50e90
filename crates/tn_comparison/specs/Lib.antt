pub mod Orders
pub mod Matches
