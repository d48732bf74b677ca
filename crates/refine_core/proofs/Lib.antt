mod ChunkLemmas
mod GatherLemmas
mod PartLemmas
pub mod RefinementLemmas
