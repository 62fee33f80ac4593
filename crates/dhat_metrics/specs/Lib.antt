pub mod Times
pub mod LifeState
pub mod StandsFor
pub mod Changes
pub mod Life
