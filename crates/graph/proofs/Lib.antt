pub mod WaitLaws
pub mod SeenLaws
pub mod GatherLaws
pub mod RingLaws
pub mod Unique
