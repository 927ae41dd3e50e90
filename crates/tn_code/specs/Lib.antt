pub mod Views
pub mod Ways
pub mod Rooms
pub mod OneProof
pub mod Codes
