pub mod AnyStats
pub mod AnyWindows
pub mod Bounds
pub mod Jobs
pub mod LayerRuns
pub mod StatsTexts
pub mod WindowRuns
pub mod Windows
