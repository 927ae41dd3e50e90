pub mod Receipts
pub mod Turns
pub mod Ends
pub mod Runs
