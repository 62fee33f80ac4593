mod MassifFileLemmas
mod WordLemmas
mod DocumentLemmas
