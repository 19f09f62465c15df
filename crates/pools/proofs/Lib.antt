pub mod PoolLaws
pub mod Unique
