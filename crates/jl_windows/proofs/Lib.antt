pub mod Cutting
pub mod Openings
pub mod ReadingLaws
pub mod SeekingLaws
pub mod GoingLaws
pub mod CountedLaws
