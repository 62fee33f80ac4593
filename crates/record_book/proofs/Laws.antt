-- What the crates above may cite: texts of one line, the lines of bytes and of a summary, which
-- lines name a thread, what the entries of an order mean, what a thread does in an order, live
-- blocks by their IDs with what they weigh, and where they lie.
pub use Rattle.record_book.proofs.LineTexts.{both-text, digits-text, kind-text, literal-text, text-append}
pub use Rattle.record_book.proofs.SpelledLemmas.{line-of, none-at, spelled-order, there, thread-named, thread-text}
pub use Rattle.record_book.proofs.SpelledLemmas.{threads-order, threads_of, unnamed}
pub use Rattle.record_book.proofs.SummaryLines.{summary-text, summary_lines}
pub use Rattle.record_book.proofs.FigureLemmas.{held-thread, held_by, of_thread, order-within, thread-back}
pub use Rattle.record_book.proofs.HeapLemmas.{end-released, entry-released, same}
pub use Rattle.record_book.proofs.NextLemmas.{address-some}
pub use Rattle.record_book.proofs.OrderLemmas.{actions-none, actions-push, times-append, times-own, times-reverse}
pub use Rattle.record_book.proofs.PlaceLemmas.{address-within, end-allocated, entry-allocated, entry-apart, entry-next}
pub use Rattle.record_book.proofs.PlaceLemmas.{next-within, only-with}
pub use Rattle.record_book.proofs.HeldLemmas.{held-none, held-some, held-split, held-without, held_in, size-without}
pub use Rattle.record_book.proofs.HeldLemmas.{weight_of}
pub use Rattle.record_book.proofs.TallyLemmas.{bytes-split, count-split}
