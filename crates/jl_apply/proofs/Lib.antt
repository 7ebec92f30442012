pub mod Logs
pub mod Passings
pub mod Needs
pub mod Loops
pub mod Stops
pub mod Acts
pub mod Resolving
