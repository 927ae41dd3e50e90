pub mod AnswerViews
pub mod RowViews
pub mod SearchAnswers
