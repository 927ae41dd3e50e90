pub mod Alike
pub mod SpecTestAnswers
pub mod Runs
