pub mod CommandLemmas
pub mod ImproperLemmas
pub mod KnownLemmas
pub mod LayerCommandLemmas
pub mod PairCommandLemmas
pub mod SkipLemmas
pub mod WordLemmas
