pub mod Formats
pub mod Layouts
