pub mod StackFigures
pub mod ToldAgain
