pub mod RowLaws
pub mod OneOutcome
