pub mod Settings
pub mod DestroyedSessions
pub mod Messages
pub mod Ends
pub mod Life
pub mod Invariance
mod Marks
