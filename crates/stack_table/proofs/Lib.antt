mod Continuing
mod EntryLemmas
mod IndexLemmas
mod Interning
pub mod Laws
mod NodeNumbers
mod Stacks
