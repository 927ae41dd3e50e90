pub mod SameBoards
pub mod SameReceipts
pub mod SameTurns
pub mod SameEnds
pub mod OneRun
pub mod SameRuns
pub mod SamePreparations
