pub mod SameLaws
pub mod Euclid
pub mod OneOutcome
