pub mod LabelLemmas
pub mod MergedLemmas
pub mod PartLemmas
pub mod TermLemmas
mod WorkedItems
