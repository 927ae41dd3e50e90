pub mod Views
pub mod Names
pub mod Answers
pub mod Sizes
pub mod Wholes
pub mod Variables
pub mod Readings
