pub mod Explain
pub mod Output
pub mod Places
