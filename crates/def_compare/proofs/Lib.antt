mod Pairs
mod Beginnings
pub mod Matches
pub mod InOrder
pub mod Prefixes
mod Rows
