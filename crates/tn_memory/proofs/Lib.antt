mod Counts
pub mod Histories
