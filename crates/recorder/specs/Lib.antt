pub mod Holds
pub mod Ending
