pub mod PlanLaws
pub mod ServeLaws
pub mod MessageLaws
pub mod ExactlyThen
pub mod OnlyNamed
pub mod TableLaws
pub mod OneOutcome
