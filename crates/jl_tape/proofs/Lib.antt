pub mod TapeLemmas
pub mod Stretches
pub mod RunLaws
