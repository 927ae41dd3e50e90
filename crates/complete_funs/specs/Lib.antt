pub mod Answers
pub mod PrintedAnswers
pub mod SpecAnswers
