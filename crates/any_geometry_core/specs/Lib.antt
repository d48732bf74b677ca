pub mod AnyGeometries
pub mod Envelopes
