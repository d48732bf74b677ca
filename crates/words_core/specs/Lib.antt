pub mod Conditions
pub mod Distances
pub mod Readings
