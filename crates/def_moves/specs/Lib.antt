pub mod Directives
pub mod Laws
pub mod Texts
pub mod TextLaws
pub mod Outputs
