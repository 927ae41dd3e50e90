pub mod OneSession
pub mod SideBySide
pub mod Moves
pub mod MessageCounts
pub mod FoundMoves
mod Matches
