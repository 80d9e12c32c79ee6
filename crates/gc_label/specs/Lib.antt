pub mod Label
pub mod Seed
