pub mod Order
pub mod Same
mod Rows
