pub mod Tests
pub mod Digits
pub mod Spell
