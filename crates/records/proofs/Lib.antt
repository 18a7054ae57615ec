pub mod TakeLaws
pub mod RunLaws
pub mod MoveLaws
pub mod AnswerLaws
pub mod PieceLaws
pub mod HeldLaws
pub mod CallLaws
pub mod OneOutcome
