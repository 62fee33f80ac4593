pub mod SymbolFileFault
pub mod SummaryReport
pub mod PrintReport
pub mod FlameReport
pub mod InterpretReport
pub mod InterpretKeeps
pub mod GenReport
pub mod GenTaken
