pub mod Slots
pub mod Turns
pub mod Moments
pub mod Laws
