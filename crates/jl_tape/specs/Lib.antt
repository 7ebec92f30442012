pub mod Tapes
pub mod Runs
