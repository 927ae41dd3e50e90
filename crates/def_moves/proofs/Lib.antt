pub mod Picks
mod Rests
pub mod Texts
mod Rows
