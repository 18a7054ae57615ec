pub mod JudgeLaws
pub mod FairLaws
pub mod TableLaws
pub mod OneOutcome
