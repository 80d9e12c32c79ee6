pub mod Names
pub mod OrderLemmas
pub mod NumberLemmas
pub mod EnteredLemmas
