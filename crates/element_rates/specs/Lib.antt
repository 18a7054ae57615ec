pub mod Rates
pub mod Worked
