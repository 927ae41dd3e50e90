pub mod Captures
pub mod Views
pub mod MemberTokens
