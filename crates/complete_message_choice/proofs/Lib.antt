mod Both
mod Counts
