pub mod PreparedLemmas
pub mod SyncLemmas
