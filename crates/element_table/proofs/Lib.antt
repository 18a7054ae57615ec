pub mod BoundLaws
pub mod ConditionLaws
pub mod AnswerLaws
pub mod ExactlyThen
pub mod RefusedLaws
pub mod SoundLaws
pub mod OneOutcome
