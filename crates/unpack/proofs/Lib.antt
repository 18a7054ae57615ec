pub mod UnpackLaws
pub mod BytesLaws
pub mod OneOutcome
