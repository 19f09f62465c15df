pub mod ClearLaws
pub mod InflowLaws
