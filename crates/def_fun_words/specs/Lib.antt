pub mod Words
pub mod WordTexts
pub mod Notes
pub mod WordLaws
pub mod NoteLaws
