pub mod Cells
pub mod CellSteps
pub mod Walks
