pub mod Made
pub mod Endings
