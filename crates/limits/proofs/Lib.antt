pub mod LimitLaws
pub mod OneOutcome
