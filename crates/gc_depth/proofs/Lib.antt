pub mod Names
pub mod RankLemmas
pub mod ReorderLemmas
pub mod CountLemmas
pub mod DepthLemmas
pub mod LawLemmas
pub mod TableLemmas
