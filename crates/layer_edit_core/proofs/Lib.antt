pub mod SlotLemmas
pub mod MapLemmas
pub mod IdLemmas
pub mod LayerTreeLemmas
pub mod Rules
