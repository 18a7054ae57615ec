pub mod DifferentLaws
pub mod ByteLaws
pub mod TotalLaws
pub mod MapLaws
pub mod Joining
pub mod CutYear
