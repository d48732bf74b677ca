pub mod RecordLemmas
pub mod CutLemmas
pub mod FieldLemmas
pub mod HeaderLemmas
pub mod FileLemmas
pub mod EndLemmas
pub mod FirstLineLemmas
