pub mod Names
pub mod JobLemmas
pub mod RoundLemmas
