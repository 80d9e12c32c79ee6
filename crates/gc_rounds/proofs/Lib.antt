pub mod WordLemmas
pub mod Keeps
pub mod Seating
