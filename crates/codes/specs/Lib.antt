pub mod Codes
pub mod Ranges
