pub mod Feed
pub mod Calls
