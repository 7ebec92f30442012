pub mod FillLemmas
pub mod ItemLemmas
pub mod PartLemmas
pub mod ReadLemmas
pub mod ReadingLemmas
pub mod SinkLemmas
pub mod SourceLemmas
pub mod SourceListLemmas
