pub mod Entries
pub mod Firsts
