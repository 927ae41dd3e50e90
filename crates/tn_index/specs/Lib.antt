pub mod Views
pub mod Newest
pub mod Entries
