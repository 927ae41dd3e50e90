pub mod NoteCounts
pub mod NodeFlags
pub mod NodeNotes
pub mod EmptyScripts
pub mod CommandStarts
pub mod Remarks
pub mod LongRuns
pub mod ProgramTraps
