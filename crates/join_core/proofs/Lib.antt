pub mod AnyFirstsLemmas
pub mod AnyJoinLemmas
pub mod CountsLemmas
pub mod FirstsLemmas
pub mod JoinRunLemmas
pub mod ProductLemmas
pub mod RelatingLemmas
