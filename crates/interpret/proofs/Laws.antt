-- What the crates above may cite: one line more of a raw trace, its events, and what pointers stand
-- for behind it; and which lines have no fault where there are no symbols.
pub use Rattle.interpret.proofs.EventLemmas.{event-allocated, event-freed, event-none, events-none, held-none}
pub use Rattle.interpret.proofs.RawLedgerLemmas.{held-alloc, held-free}
pub use Rattle.interpret.proofs.PlainLemmas.{plain-allocation, plain-node}
