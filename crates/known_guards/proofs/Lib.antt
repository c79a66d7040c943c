pub mod FormulaViews
pub mod GuardSteps
pub mod GuardRows
