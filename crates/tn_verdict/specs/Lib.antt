pub mod Views
pub mod Reasons
pub mod Effects
pub mod MismatchTexts
pub mod SpecTestInputs
pub mod ExpressionTexts
pub mod SpecTests
pub mod SpecReasonTexts
