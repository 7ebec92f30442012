pub mod GrammarLaws
pub mod TakingLaws
pub mod WorkedLines
pub mod MeaningLaws
