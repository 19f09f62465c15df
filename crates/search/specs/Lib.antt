pub mod Masks
pub mod Sought
pub mod Searched
