mod NearestFunctions
pub mod FunctionTraps
pub mod SpecTraps
pub mod Choices
pub mod CommandReasons
pub mod ReplyTexts
