pub mod Sums
pub mod Inside
pub mod Parts
pub mod Index
pub mod Answered
