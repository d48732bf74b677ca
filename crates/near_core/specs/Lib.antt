pub mod Conditions
pub mod Formats
pub mod Growth
pub mod Lists
pub mod Near
pub mod StandingNear
