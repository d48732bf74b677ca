pub mod ApartLemmas
pub mod BeyondLemmas
pub mod EndLemmas
pub mod OuterLemmas
pub mod ShownLemmas
