pub mod Flags
pub mod Matching
pub mod Functions
pub mod Expressions
pub mod Outcome
pub mod Reading
pub mod Laws
