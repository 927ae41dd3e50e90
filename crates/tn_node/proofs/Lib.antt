pub mod Slots
pub mod Links
pub mod Acts
pub mod Loops
pub mod Room
pub mod Picks
pub mod Happenings
pub mod Owners
