pub mod Answers
pub mod Matching
pub mod Views
