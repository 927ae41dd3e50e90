pub mod SameStarts
pub mod SameTurns
pub mod SameCloses
pub mod SameListings
