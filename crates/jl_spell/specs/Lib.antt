pub mod Varints
pub mod Fields
pub mod Messages
pub mod Rows
pub mod Frames
pub mod Laws
