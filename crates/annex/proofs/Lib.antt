pub mod FoldLaws
pub mod Bounds
pub mod HalfKept
pub mod OneOutcome
