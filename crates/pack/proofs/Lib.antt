pub mod SortLaws
pub mod OneOutcome
