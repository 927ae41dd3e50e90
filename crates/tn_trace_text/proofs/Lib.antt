pub mod FirstLines
pub mod Contents
pub mod MessageFields
pub mod StackTraces
pub mod LinesRead
pub mod ErrorMaps
pub mod DbgFormats
