-- What the crates above may cite: the version line that this repository's programs write.
pub use Rattle.sound_traces.proofs.Trace.{version_written}
