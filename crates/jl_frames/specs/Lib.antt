pub mod Feeding
pub mod Following
pub mod Index
pub mod Runs
pub mod Stretches
pub mod Windows
