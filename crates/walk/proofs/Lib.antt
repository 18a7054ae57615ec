pub mod WalkLaws
pub mod OneOutcome
