pub mod Numbers
pub mod RandomRuns
pub mod RandomEntries
pub mod Laws
