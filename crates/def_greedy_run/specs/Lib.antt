pub mod GreedyRuns
pub mod Laws
