pub mod Depth
pub mod Ranks
pub mod Order
