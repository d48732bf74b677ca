pub mod Agreement
pub mod BoxFigures
