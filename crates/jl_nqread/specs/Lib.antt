pub mod Taking
pub mod Grammar
pub mod Lines
pub mod Seen
pub mod Meaning
pub mod Finding
