pub mod Workers
pub mod Counts
pub mod NumberSet
pub mod Fault
pub mod Way
