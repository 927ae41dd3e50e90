pub mod RandomStates
