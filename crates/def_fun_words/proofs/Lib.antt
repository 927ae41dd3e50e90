pub mod WordRows
pub mod NoteRows
pub mod TextRows
pub mod Counts
pub mod NumberedNames
pub mod Lines
pub mod NotePlaces
