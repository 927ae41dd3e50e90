pub mod Sets
pub mod Elements
pub mod Goings
pub mod Moves
pub mod Memos
pub mod CompiledRuns
