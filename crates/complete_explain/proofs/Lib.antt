pub mod OneExplanation
pub mod Both
pub mod OneNote
