pub mod Jobs
pub mod Views
pub mod Walks
