pub mod GivenLaws
pub mod LineLaws
pub mod TotalLaws
pub mod Worked
