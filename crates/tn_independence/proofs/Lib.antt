pub mod EitherLinks
pub mod OwnSettings
