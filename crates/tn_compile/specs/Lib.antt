pub mod Views
pub mod Emissions
pub mod Places
pub mod Heads
pub mod Folds
pub mod Rooms
pub mod Walks
