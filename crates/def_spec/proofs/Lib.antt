pub mod Binding
pub mod Outcomes
pub mod Values
pub mod Conditions
pub mod TraceFlags
pub mod Inheritance
pub mod Reading
pub mod Numbers
mod Rows
