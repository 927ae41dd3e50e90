pub mod Numbers
pub mod MoveCounts
