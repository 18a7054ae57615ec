pub mod PenLaws
pub mod OneOutcome
