pub mod Areas
pub mod ChoiceLemmas
pub mod CoverLemmas
pub mod PageLemmas
pub mod SeedLemmas
pub mod SliceLemmas
pub mod SplitLemmas
pub mod TileLemmas
