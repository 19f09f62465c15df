pub mod Waits
pub mod Rings
pub mod Hits
