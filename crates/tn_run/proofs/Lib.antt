mod EndsLemmas
mod AcceptLemmas
pub mod JobLemmas
mod ReadLemmas
mod Answers
mod RestLemmas
mod ClosingLemmas
pub mod LongRuns
