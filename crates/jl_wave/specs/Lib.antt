pub mod Tapes
pub mod Waves
pub mod Benches
