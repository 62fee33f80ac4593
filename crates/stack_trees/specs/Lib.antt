pub mod StackTexts
pub mod Needed
