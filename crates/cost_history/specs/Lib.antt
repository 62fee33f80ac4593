pub mod Changes
pub mod Seen
pub mod Marks
pub mod MarksView
pub mod HistoryState
pub mod Steps
pub mod HistoryView
pub mod ReplayState
