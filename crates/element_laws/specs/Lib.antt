pub mod Tally
pub mod Adds
pub mod Turned
pub mod Join
pub mod Needed
