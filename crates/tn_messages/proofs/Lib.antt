pub mod Seconds
pub mod Processes
pub mod SessionLists
pub mod Equal
pub mod Additions
