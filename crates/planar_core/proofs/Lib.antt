pub mod AnyLemmas
pub mod BoxLemmas
pub mod BoxTouchLemmas
pub mod FractionLemmas
pub mod TouchLemmas
