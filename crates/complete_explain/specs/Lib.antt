pub mod CommandReasons
