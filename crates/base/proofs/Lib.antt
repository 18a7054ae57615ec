pub mod FirstLaws
pub mod TestLaws
pub mod ChainLaws
pub mod ListLaws
pub mod OneOutcome
pub mod PlaceLaws
pub mod SumLaws
pub mod PermLaws
