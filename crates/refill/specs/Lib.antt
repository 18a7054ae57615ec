pub mod Refill
pub mod Arrive
