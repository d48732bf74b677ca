pub mod DistanceReports
pub mod DistanceTexts
pub mod NearRuns
pub mod NearestRuns
