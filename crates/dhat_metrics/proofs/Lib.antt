mod TimeLemmas
mod Stepping
mod LifeLemmas
