pub mod FlagLemmas
pub mod Silence
pub mod Tables
