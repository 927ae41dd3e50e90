pub mod Journals
mod Flags
mod Settings
mod Terms
mod StateRows
