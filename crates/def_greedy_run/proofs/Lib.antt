pub mod GreedyRuns
pub mod Rows
