pub mod Tallies
pub mod Counters
