pub mod MeetingLemmas
pub mod NumberLemmas
pub mod TreeFeatureLemmas
pub mod TreeJoinLemmas
