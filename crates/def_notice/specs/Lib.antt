pub mod FaultTexts
pub mod MovesTexts
pub mod DifferenceTexts
pub mod NoticeTexts
pub mod NoticeLaws
