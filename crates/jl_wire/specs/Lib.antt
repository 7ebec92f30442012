pub mod Varint
pub mod Refusals
pub mod Fields
pub mod Seen
