pub mod NumberLaws
pub mod PlaceLaws
pub mod CutLaws
pub mod AppendLaws
pub mod OneOutcome
pub mod ByteLaws
pub mod WriteLaws
