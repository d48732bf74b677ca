pub mod AmountLemmas
pub mod DistanceLemmas
pub mod NearRunLemmas
pub mod NearestLemmas
pub mod RunLemmas
