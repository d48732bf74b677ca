pub mod Drawings
pub mod Figures
pub mod Labels
pub mod Limits
pub mod Marks
pub mod Outlines
pub mod Pictures
pub mod Views
