pub mod Links
pub mod OwnSettings
