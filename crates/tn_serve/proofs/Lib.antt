pub mod ReadMembers
pub mod Outcomes
pub mod LineReadings
