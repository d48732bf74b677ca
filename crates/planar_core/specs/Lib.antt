pub mod AnyPoints
pub mod BoxPoints
pub mod Forms
pub mod Squares
