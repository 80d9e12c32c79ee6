pub mod Names
pub mod LabelLemmas
pub mod RunLemmas
pub mod GatherLemmas
