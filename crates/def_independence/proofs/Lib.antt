pub mod Numbers
pub mod Acts
pub mod Slots
pub mod Worlds
pub mod Runs
pub mod Picks
pub mod Receives
pub mod NextSteps
pub mod OwnSteps
pub mod Evaluations
pub mod Sessions
pub mod Events
pub mod Swaps
pub mod Calls
mod Rows
