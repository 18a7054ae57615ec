pub mod Day
pub mod Story
pub mod Late
pub mod Full
