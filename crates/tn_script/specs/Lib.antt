pub mod Views
pub mod Answers
pub mod Bodies
pub mod Items
