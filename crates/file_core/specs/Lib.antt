pub mod Batches
pub mod EditFiles
pub mod LayerFiles
pub mod Parts
pub mod SkippedRows
