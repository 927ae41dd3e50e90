pub mod OneItem
pub mod Elements
pub mod Shapeless
pub mod Breaks
mod Rows
