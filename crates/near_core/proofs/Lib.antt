pub mod DecisionLemmas
pub mod GrowthLemmas
pub mod JoinLemmas
pub mod LayerLemmas
pub mod NearLemmas
pub mod SyncLemmas
pub mod WantedLemmas
