pub mod Beyond
pub mod Ends
pub mod Lying
pub mod Shown
