pub mod Log
pub mod Journal
pub mod States
pub mod Places
pub mod Records
pub mod RecordTurns
pub mod SeatTurns
pub mod ClosedJournals
