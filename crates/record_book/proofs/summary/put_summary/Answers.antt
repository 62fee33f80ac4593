use Rattle.std.proofs.Common.{◌++◌, ap, ◌∙◌}
use Rattle.record_book.specs.declared.summary.Summary.{Summary}
use Rattle.record_book.specs.SummaryText.{count_lines, leaked_line, peak_line, rec_summary}
use Rattle.record_book.proofs.TallyLemmas.{if-ok}
use Rattle.record_book.proofs.summary.put_summary.Goals as goal

pub returns-else-is_err-clause-appended : goal.returns-else-is_err-clause-appended
unfolding rec_summary
returns-else-is_err-clause-appended c =
    if-ok c.put-put.result _ _ (λ put.
    put
    ∙ ap (λ (summary : Summary). c.args.out.now.items
    ++ (count_lines summary ++ (leaked_line summary ++ peak_line summary))) c.in_ok-summary.ensures)
    c.put-put.ensures.appended
