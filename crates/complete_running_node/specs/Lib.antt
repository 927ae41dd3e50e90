pub mod SameComparisons
