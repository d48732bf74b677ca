pub mod DistanceLemmas
pub mod GeometryLemmas
pub mod JoinLemmas
pub mod ReadingLemmas
