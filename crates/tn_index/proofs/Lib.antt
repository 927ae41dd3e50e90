pub mod Functions
pub mod Renewals
