pub mod Tokens
pub mod Scan
pub mod Trees
pub mod Sizes
pub mod States
pub mod Clauses
pub mod FunStates
pub mod Answers
