pub mod Each
pub mod Reorder
pub mod Turned
