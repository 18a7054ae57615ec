pub mod SoundLaws
pub mod OneOutcome
