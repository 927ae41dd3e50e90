pub mod Views
pub mod NoteViews
pub mod FrontLines
pub mod FunAnswers
