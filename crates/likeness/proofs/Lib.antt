pub mod LikenessLaws
pub mod NumberLaws
pub mod OneOutcome
