pub mod People
pub mod Example
