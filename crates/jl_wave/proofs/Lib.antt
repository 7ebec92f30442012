pub mod WaveLemmas
pub mod Crossing
