pub mod Words
pub mod Views
pub mod Banks
pub mod Steps
pub mod Places
pub mod Laws
pub mod Calls
