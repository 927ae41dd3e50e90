pub mod SameEntries
pub mod Both
