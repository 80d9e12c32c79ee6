pub mod Names
pub mod Bits
pub mod Chains
pub mod Messages
pub mod OneBlock
pub mod Rotations
pub mod Turning
pub mod WordLanes
