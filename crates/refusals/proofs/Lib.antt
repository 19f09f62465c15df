pub mod PlaceLaws
pub mod PassLaws
pub mod UnrefusedLaws
pub mod ResultLaws
pub mod Unique
pub mod Worked
