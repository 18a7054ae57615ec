pub mod CodeLaws
pub mod OneOutcome
