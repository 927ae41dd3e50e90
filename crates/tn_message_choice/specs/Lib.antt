pub mod Choices
pub mod SlotChoices
pub mod Choosers
pub mod Counts
pub mod Finders
