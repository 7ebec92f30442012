pub mod Terms
pub mod Incoming
pub mod Playing
pub mod Applying
