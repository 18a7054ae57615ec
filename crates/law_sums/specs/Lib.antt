pub mod Accepted
pub mod Theorem
