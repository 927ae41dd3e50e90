pub mod Values
pub mod Tokens
pub mod Pieces
