pub mod Hands
pub mod Moves
pub mod Rows
pub mod QueueSlots
pub mod SeatReceipts
pub mod WorkerEnds
pub mod Reports
mod Listings
mod BoardPlaces
mod Crossings
mod EndCrossings
