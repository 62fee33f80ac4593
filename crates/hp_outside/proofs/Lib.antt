mod Known
mod HeldFilesLemmas
mod WindowLemmas
pub mod Laws
mod LineLemmas
mod ReaderLemmas
mod WholeLinesLemmas
