pub mod EarlierLines
pub mod ClauseLines
pub mod LaterLines
pub mod SessionLines
pub mod LineTexts
pub mod MoveTexts
pub mod SideBySide
pub mod OneSession
pub mod MoveLines
pub mod Picks
pub mod ItemTexts
pub mod BeforePicks
pub mod DifferenceLines
pub mod NodeMoveTexts
pub mod ChosenMoveTexts
mod CommandDifferences
mod Explanations
