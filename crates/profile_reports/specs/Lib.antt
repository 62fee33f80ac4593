pub mod MassifFileFault
pub mod MassifFileReport
pub mod PageReport
pub mod DocumentFault
pub mod DhatFileReport
pub mod ViewReport
pub mod ConvertReport
