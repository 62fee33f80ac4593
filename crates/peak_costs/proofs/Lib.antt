mod Shares
mod Keeping
mod PeakLemmas
mod TotalsLemmas
pub mod Laws
