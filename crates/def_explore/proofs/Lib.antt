pub mod Lists
pub mod Alike
pub mod Passes
pub mod RunsToEnd
pub mod Closed
pub mod AllRuns
pub mod SameEntries
mod Words
mod Independent
pub mod ReducedJournals
pub mod Settings
mod Rows
