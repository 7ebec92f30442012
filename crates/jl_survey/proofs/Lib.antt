mod WorkedRows
pub mod CountLaws
pub mod Appending
pub mod MetadataLaws
pub mod WalkLaws
pub mod WindowLaws
pub mod WholeLaws
pub mod WindowedLaws
pub mod SurveyLaws
