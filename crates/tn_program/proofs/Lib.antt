pub mod Any
pub mod First
pub mod FormParts
pub mod CreatedSessions
pub mod FunctionNames
pub mod Totals
pub mod BoundVariables
pub mod Positions
