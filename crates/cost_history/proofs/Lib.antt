mod Costs
mod Sifting
mod Marking
mod Placing
mod Told
mod Telling
