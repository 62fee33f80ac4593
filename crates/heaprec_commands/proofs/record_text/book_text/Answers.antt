use Rattle.std.proofs.Common.{◌≡◌, ◌≤◌, ◌++◌, ◌∙◌, ℕ, List, Bool, true, false, length, ap, ap₂, sym, subst, arith, rules}
use Rattle.record_book.specs.RecordedTrace.{recorded}
use Rattle.record_book.specs.SummaryText.{rec_summary}
use Rattle.heaprec_commands.specs.Recorded.{IsRecorded}
use Rattle.heaprec_commands.proofs.RecordedLemmas.{recorded_as}
use Rattle.heaprec_commands.proofs.record_text.book_text.Goals as goal

pub returns-then-summary : goal.returns-then-summary
returns-then-summary c =
    let job = c.args.book.job in
    let order = c.args.book.order in
    let text = c.put_bytes.new.out.items in
    let few : length job.scripts ≤ 64 = omega (arith, c.threads-threads.ensures.count, c.threads-threads.ensures.few) in
    let lines =
    c.deref.ensures.value
    ∙ (c.in_ok-put_summary.ensures.appended
    ∙ ap (λ (none : List ℕ). none ++ rec_summary job.scripts order) c.new-lines.ensures.items) in
    let is : text ≡ recorded job order ++ rec_summary job.scripts order =
    c.in_ok-put_bytes.ensures.appended
    ∙ ap₂ (λ (front back : List ℕ). front ++ back) c.into_bytes-text.ensures.trace lines in
    subst (λ (b : Bool). IsRecorded b job text) (sym c.if-summary.true)
    (recorded_as true job order text is
    (c.spelled_orders.ensures.summary job order order few (c.quiet_modules.ensures job.modules c.requires.modules)
    c.requires.all.under)
    c.requires.all c.requires.figures
    (c.recorded_summaries.ensures job order (search rules)).summary)

pub returns : goal.returns
returns c =
    let job = c.args.book.job in
    let order = c.args.book.order in
    let text = c.into_bytes.result.items in
    let few : length job.scripts ≤ 64 = omega (arith, c.threads-threads.ensures.count, c.threads-threads.ensures.few) in
    subst (λ (b : Bool). IsRecorded b job text) (sym c.if-summary.false)
    (recorded_as false job order text c.into_bytes.ensures.trace
    (c.spelled_orders.ensures.trace job order few (c.quiet_modules.ensures job.modules c.requires.modules)
    c.requires.all.under)
    c.requires.all c.requires.figures
    (c.recorded_summaries.ensures job order (search rules)).trace)
