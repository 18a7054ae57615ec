pub mod Times
pub mod Figures
pub mod Simple
pub mod Stepped
pub mod Annex
pub mod Figure
pub mod Fraction
pub mod Inside
