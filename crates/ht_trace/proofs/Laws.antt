-- What the crates above may cite: one more line of a trace, what it says and its fault; the line of
-- an event of a held info; lists with one more element at their end; and what stays as tables grow.
pub use Rattle.ht_trace.proofs.EventLemmas.{passes_event}
pub use Rattle.ht_trace.proofs.Growing.{all-push, filter_map-push, gathered-push}
pub use Rattle.ht_trace.proofs.LineLemmas.{events-push, no_fault_in, stands-push}
pub use Rattle.ht_trace.proofs.SoundLemmas.{stack-places}
pub use Rattle.ht_trace.proofs.StackLemmas.{frame_count_of-more}
pub use Rattle.ht_trace.proofs.VersionLemmas.{Reads, reads-by, reads-first, reads-later}
