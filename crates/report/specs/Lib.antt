pub mod Report
pub mod Dashes
