pub mod DhatReport
pub mod ListedNames
pub mod LifetimesView
pub mod MassifReport
pub mod SamplingView
