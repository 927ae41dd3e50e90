pub mod SpecReasons
