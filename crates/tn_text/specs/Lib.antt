pub mod Kinds
pub mod Lexer
pub mod Values
pub mod Stack
pub mod Answers
pub mod Writes
pub mod WrittenTrees
pub mod Watch
