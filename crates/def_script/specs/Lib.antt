pub mod Limits
pub mod Program
pub mod Exports
pub mod Shapes
pub mod Rules
pub mod Script
pub mod Laws
