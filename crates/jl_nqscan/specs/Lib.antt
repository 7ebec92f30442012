pub mod Reading
pub mod Scanning
pub mod Stretches
pub mod Scanned
