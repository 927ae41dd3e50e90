pub mod Prefixes
pub mod Journals
pub mod Answers
pub mod RecordTurns
pub mod BookTurns
pub mod Receipts
