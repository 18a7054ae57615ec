pub mod LineLaws
pub mod SortLaws
pub mod OneOutcome
