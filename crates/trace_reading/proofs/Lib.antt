pub mod Laws
mod ReadingLemmas
mod EventLemmas
mod InfoEvents
