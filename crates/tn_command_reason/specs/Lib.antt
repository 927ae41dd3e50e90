pub mod CommandReasons
pub mod FunctionTraps
pub mod HeldTraps
pub mod NearestFunctions
