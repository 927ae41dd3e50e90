pub mod Commands
pub mod NewSettings
pub mod Sessions
pub mod Processes
pub mod Requests
