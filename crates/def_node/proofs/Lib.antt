pub mod Acts
mod OldestFrames
pub mod Steps
pub mod Still
pub mod Limits
pub mod Rows
pub mod KnownPids
pub mod Raises
