pub mod TestLaws
pub mod TableLaws
pub mod OneOutcome
