pub mod Places
pub mod DepartureRuns
pub mod Explorations
pub mod TextQuestions
mod Runs
pub mod GreedyRuns
