pub mod Near
pub mod Acts
pub mod Mades
pub mod Pushing
pub mod Turning
pub mod Leaves
