-- What the crates above may cite: what `interpret` gives at status 0 keeps the ledger and the
-- stacks of the raw trace, by the laws of interpreted traces.
pub use Rattle.trace_reports.proofs.KeepLemmas.{AreLaws, interpret-keeps}
