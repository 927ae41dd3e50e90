mod Lists
mod Pairs
mod Terms
pub mod Search
mod Rows
