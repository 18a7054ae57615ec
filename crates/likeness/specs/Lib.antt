pub mod Likeness
pub mod Numbers
