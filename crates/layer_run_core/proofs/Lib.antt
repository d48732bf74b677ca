pub mod AnyWindowLemmas
pub mod BoundsLemmas
pub mod IntersectionLemmas
pub mod LayerRunLemmas
pub mod WindowLemmas
pub mod WindowRunLemmas
