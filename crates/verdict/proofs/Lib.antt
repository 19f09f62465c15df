pub mod AnswerLaws
pub mod ExistsLaws
pub mod DecideLaws
pub mod RingedLaws
pub mod CallLaws
pub mod TableLaws
