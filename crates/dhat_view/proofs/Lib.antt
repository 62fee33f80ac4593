mod Appends
mod Lists
mod Numbering
mod Costs
mod Faults
mod LastTexts
mod Viewed
mod TreeTexts
mod Nexts
mod ViewSums
pub mod Laws
