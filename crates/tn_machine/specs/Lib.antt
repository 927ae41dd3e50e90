pub mod Views
pub mod Steps
pub mod Memos
pub mod Runs
pub mod Types
