pub mod Depths
pub mod Finds
pub mod Lists
pub mod Plans
pub mod Rows
pub mod Shares
pub mod Steps
