pub mod Choices
pub mod PlainMessages
pub mod Listings
pub mod Accounts
pub mod MessageMoves
mod ChoiceRows
