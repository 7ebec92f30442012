pub mod Taking
pub mod Ends
