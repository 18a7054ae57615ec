pub mod ReaderLaws
pub mod Asking
pub mod OneOutcome
