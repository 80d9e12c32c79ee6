pub mod Names
pub mod TokenLemmas
pub mod NumberLemmas
pub mod DigitLemmas
pub mod CutLemmas
pub mod BackLemmas
