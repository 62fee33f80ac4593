mod LifetimesLemmas
mod NameLemmas
mod MassifLemmas
mod SamplingLemmas
