-- What the crates above may cite: a trace of which no line was read; totals beside tables.
pub use Rattle.trace_reading.proofs.EventLemmas.{beside_whole}
pub use Rattle.trace_reading.proofs.ReadingLemmas.{new_peaks, new_report, new_sound, new_totals, new_measure}
