pub mod Lines
pub mod DbgFormats
pub mod DbgLines
pub mod ErrorMaps
pub mod Messages
pub mod StackTraces
pub mod TraceTexts
pub mod TraceLaws
