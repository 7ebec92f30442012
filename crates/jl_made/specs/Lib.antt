pub mod Items
pub mod Makers
