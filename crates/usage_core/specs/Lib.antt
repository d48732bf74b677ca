pub mod Tables
pub mod Usage
