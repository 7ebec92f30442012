pub mod FeedLemmas
pub mod Following
pub mod Fronts
pub mod IndexLemmas
pub mod RunLemmas
pub mod Stretches
pub mod WalkLemmas
pub mod WindowLaws
mod WorkedWindows
