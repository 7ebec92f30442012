pub mod Adding
pub mod ShapeLaws
pub mod ReadingLaws
pub mod Stretching
pub mod Going
pub mod PartLaws
