use Rattle.record_book.proofs.SpelledLemmas.{spelled-more, spelled-order}
use Rattle.record_book.proofs.SummaryLines.{summary-quiet}
use Rattle.record_book.proofs.spelling.spelled_orders.Goals as goal

pub returns-clause-trace : goal.returns-clause-trace
returns-clause-trace c =
    λ job order few quiet under. spelled-order job order c.decimal_texts.ensures.reads_back few quiet under

pub returns-clause-summary : goal.returns-clause-summary
returns-clause-summary c = λ job order other few quiet under.
    spelled-more job order _ c.decimal_texts.ensures.reads_back few quiet under (summary-quiet job.scripts other)
