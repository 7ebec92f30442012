pub mod Triples
pub mod Pushing
pub mod Taking
pub mod Decoding
