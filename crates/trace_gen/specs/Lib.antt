pub mod Sizes
pub mod Draws
pub mod Moves
pub mod GeneratedTrace
pub mod PutLine
pub mod GeneratorState
