pub mod Gathering
pub mod Goals
pub mod Running
pub mod Serve
