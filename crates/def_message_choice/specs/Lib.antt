pub mod MessageChoices
pub mod MessageNumbers
pub mod ChosenAccounts
pub mod Laws
