pub mod AnyJoinings
pub mod Counts
pub mod Firsts
pub mod Joinings
pub mod Products
pub mod RelatedLayers
pub mod Relating
