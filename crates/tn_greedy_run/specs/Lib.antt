pub mod GreedyRuns
