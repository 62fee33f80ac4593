pub mod FunctionLists
pub mod FirstLists
pub mod Whole
pub mod Labels
pub mod KnownLabels
pub mod MassifTree
pub mod LabelsIn
pub mod TreeFacts
