pub mod FormulaLaws
pub mod EndToEnd
pub mod YearLaws
