pub mod InFile
pub mod FormulaFormats
pub mod TheoryFormats
pub mod Beyond
pub mod InTheory
