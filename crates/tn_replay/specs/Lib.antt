pub mod Notes
pub mod CommandStarts
pub mod RemarkedSessions
pub mod RemarkLines
