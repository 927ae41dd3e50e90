pub mod Appends
pub mod Replay
pub mod StruckCommands
pub mod DestroyedSessions
pub mod Answers
pub mod Runs
pub mod Samples
pub mod Rows
pub mod SessionRows
pub mod SpecificationRows
pub mod ValueRows
pub mod ClauseRows
pub mod MarkRows
pub mod ExceptionRows
pub mod FlagRows
pub mod TraceRows
pub mod NodeRows
pub mod CommandRows
pub mod LimitRows
pub mod Picks
pub mod Rounds
pub mod Nexts
mod UncreatedSessions
pub mod Histories
mod HistoryAnswers
mod HistoryRows
pub mod Outputs
pub mod PickRows
mod OutputRows
