pub mod Cuts
pub mod FileShelves
pub mod FileSources
pub mod MemShelves
pub mod MemSources
pub mod Schedules
