pub mod ResultLaws
pub mod NoneLaws
pub mod CallLaws
pub mod SetLaws
pub mod RefusedSame
pub mod GoesOn
pub mod OneOutcome
