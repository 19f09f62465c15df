pub mod FaultLaws
pub mod EnteredLaws
