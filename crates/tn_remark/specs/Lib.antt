pub mod TextLines
