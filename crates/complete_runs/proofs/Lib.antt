pub mod Both
pub mod SameSteps
pub mod SameSlots
pub mod ObservedRuns
pub mod Within
