pub mod FigureLaws
pub mod ExactlyThen
pub mod RateLaws
pub mod ShownLaws
pub mod OneOutcome
pub mod Worked
