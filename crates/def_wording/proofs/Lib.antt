pub mod WordingReasons
pub mod WordingShapes
mod WordingRows
pub mod TokenWalks
pub mod CommandOffsets
