pub mod ReportLaws
pub mod DashLaws
pub mod OneOutcome
