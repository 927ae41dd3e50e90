pub mod Hands
pub mod Rows
pub mod Queues
pub mod Earnings
pub mod Endings
pub mod Reports
pub mod Boards
