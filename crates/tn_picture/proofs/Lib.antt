pub mod Places
pub mod Texts
pub mod SlotMessages
pub mod PaintedMoves
pub mod SessionNames
pub mod Cuts
pub mod JsonMembers
