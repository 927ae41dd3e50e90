pub mod RandomRuns
pub mod KeptSame
pub mod RandomEntries
pub mod Rows
