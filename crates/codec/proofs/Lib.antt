pub mod ByteLaws
pub mod AnswerLaws
pub mod Unique
