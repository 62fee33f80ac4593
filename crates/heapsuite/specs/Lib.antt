pub mod StandardBounds
