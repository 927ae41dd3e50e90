pub mod LogicSteps
mod EmptyLists
