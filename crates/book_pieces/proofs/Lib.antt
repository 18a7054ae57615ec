pub mod FeedLaws
pub mod LinkLaws
pub mod CallLaws
pub mod OneOutcome
