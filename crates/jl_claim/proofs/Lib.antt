pub mod Allowed
pub mod Counts
pub mod Kept
pub mod Lowered
pub mod Sums
