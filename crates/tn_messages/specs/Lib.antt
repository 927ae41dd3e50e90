pub mod MessageViews
pub mod Equality
