pub mod EntryLaws
pub mod OutcomeLaws
pub mod OneOutcome
