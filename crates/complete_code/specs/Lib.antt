pub mod SpecTestAnswers
