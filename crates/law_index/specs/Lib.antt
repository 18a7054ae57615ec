pub mod Formulas
pub mod Theorem
