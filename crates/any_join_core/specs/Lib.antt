pub mod Conditions
pub mod Limits
pub mod Matches
pub mod PreparedPairs
pub mod StandingNear
