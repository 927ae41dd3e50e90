pub mod AlignedLines
pub mod Expectations
pub mod Unmet
