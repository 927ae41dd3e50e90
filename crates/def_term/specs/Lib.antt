pub mod Tree
pub mod Order
pub mod Names
pub mod Atoms
pub mod Text
pub mod Alive
pub mod Laws
