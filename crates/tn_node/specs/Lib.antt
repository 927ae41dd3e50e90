pub mod NodeEvents
pub mod Worlds
pub mod Codes
pub mod Nodes
pub mod Outlooks
