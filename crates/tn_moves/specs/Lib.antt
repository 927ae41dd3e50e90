pub mod Directives
pub mod Drives
pub mod Pieces
pub mod Readings
pub mod Schedules
pub mod Plans
