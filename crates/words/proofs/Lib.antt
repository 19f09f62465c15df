pub mod WordLaws
pub mod ListLaws
pub mod Unique
