pub mod Names
pub mod ArgumentsLemmas
pub mod MistakeLemmas
