pub mod Evaluations
pub mod Readings
