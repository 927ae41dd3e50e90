pub mod FirstBroken
pub mod OneScript
mod Rows
pub mod TextRows
