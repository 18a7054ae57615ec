pub mod TableLaws
pub mod SearchLaws
pub mod RollLaws
pub mod OneOutcome
