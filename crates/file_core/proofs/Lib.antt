pub mod LoadedLemmas
pub mod BatchLemmas
pub mod PartLemmas
