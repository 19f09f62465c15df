pub mod ReadLaws
pub mod ByteLists
pub mod WriteLaws
pub mod Unique
