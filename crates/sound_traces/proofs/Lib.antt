mod Walk
mod Held
mod Figures
mod Groups
mod Events
mod Trace
pub mod Laws
