pub mod Gathered
pub mod Growth
pub mod Marks
pub mod Near
pub mod Nodes
pub mod ReadOffs
