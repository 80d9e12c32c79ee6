pub mod Names
pub mod FileLemmas
pub mod JobsLemmas
pub mod OutcomeLemmas
pub mod PieceLemmas
mod LabelFileLemmas
mod ManyLemmas
pub mod OpenLemmas
mod EachLemmas
mod GarblingsLemmas
pub mod StreamingLemmas
pub mod GarblerLemmas
