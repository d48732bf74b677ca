pub mod TextMatrices
pub mod BothFormats
