pub mod ReadLaws
pub mod AdvanceLaws
pub mod WayLaws
