pub mod CutLemmas
pub mod ScheduleLemmas
