pub mod Views
pub mod Cells
pub mod Slots
pub mod Painters
pub mod Requests
pub mod JsonTokens
