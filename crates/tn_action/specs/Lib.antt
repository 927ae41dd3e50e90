pub mod Parts
pub mod EvalContexts
pub mod Steps
pub mod Views
