pub mod Line
pub mod Escapes
pub mod Notices
pub mod Labels
pub mod Graphs
pub mod Places
