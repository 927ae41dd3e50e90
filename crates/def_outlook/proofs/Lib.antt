pub mod Outlooks
mod Limits
mod OwnLinks
