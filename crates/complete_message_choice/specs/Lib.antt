pub mod SameChoosers
