pub mod Mirror
pub mod Text
pub mod Newlines
