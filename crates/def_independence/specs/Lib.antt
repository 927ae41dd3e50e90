pub mod Alone
pub mod OwnEffects
pub mod Conditions
pub mod Laws
