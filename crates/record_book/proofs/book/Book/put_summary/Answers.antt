use Rattle.record_book.proofs.SummaryLemmas.{script-figures}
use Rattle.record_book.proofs.book.Book.put_summary.Goals as goal

pub returns-clause-figures : goal.returns-clause-figures
returns-clause-figures c = script-figures _ _ c.requires
