pub mod RefusalLaws
pub mod CheckLaws
pub mod CheckedLaws
pub mod DueLaws
