pub mod MatchLemmas
pub mod ParityLemmas
