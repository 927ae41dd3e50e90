mod SharedInputs
pub mod TaskLemmas
