pub mod Differences
pub mod Effects
pub mod Logic
