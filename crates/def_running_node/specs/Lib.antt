pub mod NodeSessions
pub mod NodeRuns
pub mod NodeReplies
pub mod NodeComparisons
pub mod NodeNotes
pub mod Laws
