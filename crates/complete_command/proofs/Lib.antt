mod SameJobs
mod SameMoves
mod SamePicks
mod SameSpecTests
mod SameWords
pub mod SameForms
