mod Texts
mod FlagTexts
mod LineLemmas
mod OwnCommands
mod ProcessLemmas
mod NewSettingLemmas
mod SessionLemmas
mod Fronts
