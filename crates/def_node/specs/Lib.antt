pub mod Event
pub mod Values
pub mod Process
pub mod Node
pub mod Limits
pub mod Laws
