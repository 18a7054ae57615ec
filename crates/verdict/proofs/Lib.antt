pub mod VerdictLaws
pub mod JudgedLaws
pub mod OneOutcome
