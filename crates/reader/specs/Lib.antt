pub mod Reading
pub mod Results
pub mod Snapshots
