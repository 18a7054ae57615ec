pub mod Entry
pub mod Sorts
pub mod Shape
