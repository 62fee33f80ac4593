pub mod TableApp
pub mod WordsTaken
