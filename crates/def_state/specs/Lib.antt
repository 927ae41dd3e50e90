pub mod Lines
pub mod SettingTerms
pub mod SessionTexts
pub mod ProcessTexts
pub mod States
pub mod Laws
