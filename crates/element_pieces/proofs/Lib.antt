pub mod FlowLaws
pub mod LinkLaws
pub mod OneOutcome
