pub mod Both
pub mod SameKinds
pub mod SameMoves
