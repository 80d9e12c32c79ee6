pub mod PairLemmas
pub mod Keeps
pub mod BoardSeating
