pub mod Jobs
pub mod Moves
pub mod SpecTests
pub mod Words
