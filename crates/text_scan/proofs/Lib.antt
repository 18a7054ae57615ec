pub mod AnyItem
pub mod ScanLaws
pub mod OutcomeLaws
pub mod OneOutcome
