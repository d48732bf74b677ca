pub mod ScaleLimits
pub mod Scales
pub mod Numbers
pub mod Values
pub mod CanonicalNumbers
pub mod NumberSteps
