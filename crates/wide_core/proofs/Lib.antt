pub mod HeldLemmas
pub mod QuotientLemmas
pub mod WideLemmas
