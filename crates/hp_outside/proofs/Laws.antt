-- What the crates above may cite: whole lines in front of other bytes are the first lines of them
-- all, and what a reader that passes them leaves; how far a reader moves with a line.
pub use Rattle.hp_outside.proofs.ReaderLemmas.{law_moved}
pub use Rattle.hp_outside.proofs.WholeLinesLemmas.{lines_of-text, lines_passed, rest_passed}
