mod EntryLemmas
mod EventLemmas
mod FirstLemmas
mod FrameLemmas
mod Growing
mod GrowthLemmas
pub mod Laws
mod LineLemmas
mod SoundLemmas
mod StackLemmas
mod VersionLemmas
