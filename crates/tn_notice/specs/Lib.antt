pub mod FaultViews
pub mod DifferenceViews
pub mod TestViews
pub mod NoticeViews
pub mod MovesViews
pub mod PickNotes
pub mod PrintableLines
pub mod PlainTexts
