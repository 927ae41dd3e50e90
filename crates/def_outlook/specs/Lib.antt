pub mod Outlook
pub mod Laws
