pub mod TextLaws
pub mod OneOutcome
