pub mod BackLaws
pub mod DigitLaws
pub mod SpellLaws
pub mod Unique
