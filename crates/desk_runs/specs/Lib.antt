pub mod Messages
pub mod Runs
pub mod Example
