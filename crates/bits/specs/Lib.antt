pub mod Mask
pub mod Members
