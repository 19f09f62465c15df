pub mod Reading
pub mod Advance
pub mod Way
