mod NodeRunRows
pub mod LinesBetween
pub mod Marks
pub mod NotDetermined
pub mod NodeNotes
pub mod SessionsAlone
pub mod NodeSessions
pub mod Signals
pub mod NodeCommands
pub mod SameMarks
pub mod SessionsHere
