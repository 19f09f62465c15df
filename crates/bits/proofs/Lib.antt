pub mod Digits
pub mod Masks
pub mod Lowest
pub mod Collected
pub mod Rest
pub mod TurnLaws
