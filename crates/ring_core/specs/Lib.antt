pub mod Candidates
pub mod PairTests
