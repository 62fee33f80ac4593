mod EndedLemmas
mod KeepLemmas
mod HasRunLemmas
