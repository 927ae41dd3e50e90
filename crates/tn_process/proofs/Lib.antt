pub mod Lookup
pub mod Templates
pub mod Acts
pub mod Exceptions
pub mod Outlooks
pub mod Additions
pub mod Frames
pub mod Distinct
