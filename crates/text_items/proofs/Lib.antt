pub mod SortLaws
pub mod ShapeLaws
pub mod OneOutcome
