pub mod AccountLines
mod CauseOfEvents
mod CauseOfSettings
mod ClauseReasons
mod ClauseStops
pub mod ClauseVerdicts
mod FaultPlaces
mod Variables
pub mod Mismatches
pub mod HeadStops
mod Names
mod Rows
mod TextRows
mod CommandTerms
mod RunRows
pub mod AccountPicks
mod RunMessages
pub mod Logic
mod Differences
mod Several
mod CommandDifferences
pub mod DifferenceLines
mod DifferenceRows
mod LogicRows
mod NodeBodies
mod NodeSessions
pub mod NodeCommands
mod NodeMoves
mod ReasonRows
pub mod SpecReasons
pub mod CommandReasons
pub mod RunCommands
pub mod Remarks
mod RemarkRows
pub mod EmptyScripts
pub mod NearestFunctions
mod NearNames
mod Limits
