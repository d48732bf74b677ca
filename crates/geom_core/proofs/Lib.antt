pub mod HeldLemmas
pub mod SetLaws
pub mod ShapeLemmas
pub mod SpanLemmas
