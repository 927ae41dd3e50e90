pub mod Details
pub mod Firsts
pub mod FormStarts
mod NumberedLines
mod Pieces
pub mod NearestForms
pub mod PickPieces
pub mod Printables
pub mod RefusedItems
mod QuoteEnds
pub mod Refusals
pub mod RuleReasons
pub mod ShapeReasons
pub mod CutTexts
mod Skims
pub mod Writes
