mod NumberLemmas
mod StatusLemmas
mod PrintLemmas
mod FormLemmas
mod ExplorationLemmas
mod SessionTexts
mod SpecNotes
mod SpecNoteRows
mod SpecNoteTerms
mod EntryNames
pub mod Fronts
