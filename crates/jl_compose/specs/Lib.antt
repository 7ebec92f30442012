pub mod Narrowing
pub mod Appending
pub mod Turns
pub mod Laws
pub mod Blocks
