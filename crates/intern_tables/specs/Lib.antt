pub mod Distinct
pub mod Keys
pub mod Numbers
pub mod WithoutRepeats
pub mod Grown
