pub mod DivisionLaws
pub mod RoundLaws
pub mod NumberLaws
pub mod OneOutcome
