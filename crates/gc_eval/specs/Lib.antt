pub mod OneJob
pub mod Many
pub mod Views
pub mod Seats
pub mod Done
pub mod Workers
