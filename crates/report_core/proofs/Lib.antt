pub mod ColumnLemmas
pub mod RefiningLemmas
pub mod ReportChunkLemmas
pub mod ReportLemmas
pub mod WrittenLemmas
