pub mod Whole
pub mod Sources
pub mod Streams
pub mod Steps
pub mod Found
pub mod Counted
