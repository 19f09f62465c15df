pub mod Distance
pub mod ReachLaws
