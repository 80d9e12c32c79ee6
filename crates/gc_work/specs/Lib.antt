pub mod Pool
pub mod PoolRule
pub mod Left
pub mod Kept
pub mod Places
pub mod WorkFault
