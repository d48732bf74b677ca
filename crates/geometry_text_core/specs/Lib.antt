pub mod Binary
pub mod Positions
pub mod Hexadecimal
pub mod Texts
pub mod Held
