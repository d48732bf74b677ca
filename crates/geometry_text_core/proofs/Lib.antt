pub mod EachLemmas
pub mod OnlyLemmas
pub mod HexadecimalLemmas
pub mod TextLemmas
pub mod HeldLemmas
