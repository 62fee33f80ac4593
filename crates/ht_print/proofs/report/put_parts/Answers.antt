use Rattle.std.proofs.Common.{ℕ, ◌+◌, ◌++◌, List, length, ap, ◌∙◌}
use Rattle.std.proofs.lemmas.Result.{on_ok_weaker}
use Rattle.ht_print.specs.FlameCosts.{trace_costs}
use Rattle.ht_print.specs.ReportText.{report_of_trace, sections_text, wanted_histogram}
use Rattle.ht_print.specs.SummaryText.{summary_text}
use Rattle.ht_print.proofs.ReportLemmas.{three-appended}
use Rattle.ht_print.proofs.ReportParts.{all-wanted, sections-are}
use Rattle.ht_print.proofs.report.put_parts.Goals as goal

pub returns-clause-appended : goal.returns-clause-appended
unfolding report_of_trace
returns-clause-appended c =
    let options = c.args.options.now in
    let tables = c.args.tables.now in
    let peaks = c.args.peaks.now in
    let out : List ℕ = c.args.out.now.items in
    let sound = c.peak_total-total.ensures.sound in
    let beside = c.requires.beside.stacks in
    on_ok_weaker c.put_summary.result
    (λ added events stands.
    three-appended out c.put_sections.new.out.items c.put_wanted_histogram.new.out.items c.put_summary.new.out.items
    (sections_text options tables (λ cost. trace_costs cost (length tables.nodes + 1) events))
    (wanted_histogram options events) (summary_text events)
    (c.in_ok-put_sections.ensures.appended
    ∙ ap (λ (bytes : List ℕ). out ++ bytes)
    (all-wanted options tables peaks ∙ sections-are options tables peaks events sound stands beside))
    (c.in_ok-put_wanted_histogram.ensures.appended events stands)
    (added events stands))
    c.put_summary.ensures.appended
