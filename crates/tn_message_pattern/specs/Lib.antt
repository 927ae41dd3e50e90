pub mod Questions
pub mod Readings
