pub mod Names
pub mod PoolMoves
pub mod LeftLemmas
