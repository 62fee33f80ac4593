-- What the crates above may cite: what is written is read again, a line has one reading, and texts of one line stay so.
pub use Rattle.ht_lines.proofs.LineSides.{reading-item, reading-sides}
pub use Rattle.ht_lines.proofs.OneLineTexts.{Reads-one_line, written-one_line}
pub use Rattle.ht_lines.proofs.WrittenLemmas.{Reads-IsWritable, reading-written}
