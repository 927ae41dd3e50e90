pub mod Traces
pub mod Entries
pub mod InOrder
pub mod Laws
pub mod Output
pub mod Answers
pub mod AnswerSummaries
pub mod AnswerRows
