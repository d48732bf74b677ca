pub mod AutoLemmas
pub mod UsageLemmas
