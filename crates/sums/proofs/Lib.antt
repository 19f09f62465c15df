pub mod TestLaws
pub mod SumLaws
pub mod DoubleSums
pub mod Least
