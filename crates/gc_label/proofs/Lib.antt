pub mod LabelLemmas
pub mod SeedLemmas
pub mod HalvesLemmas
