pub mod Bytes
pub mod Worked
