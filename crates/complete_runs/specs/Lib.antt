pub mod Alike
pub mod ObservedRuns
