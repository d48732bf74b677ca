pub mod Measured
pub mod NearestPairs
pub mod Skeletons
