pub mod Jobs
pub mod Rounds
pub mod Views
pub mod Seats
pub mod Workers
