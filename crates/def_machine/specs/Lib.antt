pub mod Instructions
pub mod Machine
pub mod Validity
pub mod Acceptance
pub mod HeadFolds
pub mod ExprFolds
pub mod Compilation
pub mod Laws
