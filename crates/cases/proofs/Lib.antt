pub mod OneOutcome
pub mod RunLaws
pub mod SplitLaws
