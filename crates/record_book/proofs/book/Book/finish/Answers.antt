use Rattle.record_book.proofs.SummaryLemmas.{script-figures}
use Rattle.record_book.proofs.book.Book.finish.Goals as goal

pub returns-clause-figures : goal.returns-clause-figures
returns-clause-figures c = script-figures _ _ c.in_ok-complete.ensures.all
