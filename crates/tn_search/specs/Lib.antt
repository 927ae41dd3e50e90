pub mod Sinks
pub mod Sessions
pub mod Probes
pub mod ReadyPicks
pub mod States
pub mod GreedyRuns
pub mod RandomRuns
pub mod FirstPicks
