pub mod RunLaws
pub mod AppendLaws
pub mod OneOutcome
