pub mod Cleared
pub mod Inflow
