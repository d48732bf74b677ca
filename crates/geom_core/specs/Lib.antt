pub mod Cells
pub mod Joined
pub mod Limits
pub mod Sets
pub mod Shapes
