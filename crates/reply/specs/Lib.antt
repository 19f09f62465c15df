pub mod Replied
pub mod Results
