pub mod ApartLemmas
pub mod IntervalLemmas
pub mod LineLemmas
pub mod PairLemmas
pub mod RingLemmas
pub mod RunLemmas
