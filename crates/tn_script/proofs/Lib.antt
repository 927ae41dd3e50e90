pub mod Creations
pub mod Functions
pub mod Distinct
pub mod Each
pub mod Equal
pub mod OfTerms
pub mod FormTexts
pub mod ItemTerms
