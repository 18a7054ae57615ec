pub mod CellLaws
pub mod LedgerLaws
pub mod TakeLaws
pub mod ExactlyThen
pub mod SoundLaws
pub mod OneOutcome
