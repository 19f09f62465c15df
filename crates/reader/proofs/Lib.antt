pub mod TableLaws
pub mod FillLaws
pub mod ReadLaws
pub mod SnapshotLaws
pub mod Worked
