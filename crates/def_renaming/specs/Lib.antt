pub mod Renaming
pub mod Laws
