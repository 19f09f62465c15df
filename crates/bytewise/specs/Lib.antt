pub mod Faults
pub mod Entered
