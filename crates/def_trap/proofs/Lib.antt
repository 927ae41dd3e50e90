pub mod IdleActions
pub mod IdleBodies
pub mod IdleHeads
mod TrapRows
