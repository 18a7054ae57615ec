pub mod NumberLaws
pub mod OneOutcome
