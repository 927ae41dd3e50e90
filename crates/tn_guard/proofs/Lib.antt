pub mod Places
pub mod Same
pub mod Texts
pub mod Views
