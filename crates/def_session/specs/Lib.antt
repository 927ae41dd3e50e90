pub mod Settings
pub mod State
pub mod Messages
pub mod Session
pub mod Commands
pub mod Laws
