pub mod RightLaws
pub mod NeedLaws
pub mod ReadingLaws
pub mod Demands
