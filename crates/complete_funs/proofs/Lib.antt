mod PrintedAlike
pub mod Readings
mod Translations
