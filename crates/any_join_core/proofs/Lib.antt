pub mod DecisionLemmas
pub mod EnvelopeLemmas
pub mod HeldLemmas
pub mod JoinLemmas
pub mod LimitLemmas
pub mod RefinedLayers
pub mod RelatedLemmas
pub mod SyncLemmas
