pub mod NextPicks
