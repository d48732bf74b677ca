pub mod TextLemmas
pub mod BothFormatsLemmas
