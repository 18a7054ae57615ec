pub mod SumLaws
pub mod IndexLaws
pub mod NumberLaws
pub mod AddLaws
pub mod OneOutcome
