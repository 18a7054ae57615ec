pub mod WordLaws
pub mod WordsBack
pub mod LentLaws
pub mod OneOutcome
