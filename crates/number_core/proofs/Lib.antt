pub mod NumberLemmas
pub mod FractionLemmas
pub mod RoundedLemmas
pub mod FrontLemmas
pub mod PlainLemmas
pub mod GoodLemmas
pub mod PrintedLemmas
