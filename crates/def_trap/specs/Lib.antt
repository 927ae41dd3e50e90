pub mod Actions
pub mod Traps
pub mod TrapTexts
pub mod TrapLaws
