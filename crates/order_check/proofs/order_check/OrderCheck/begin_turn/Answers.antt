use Rattle.std.proofs.Common.{◌≡◌, ◌++◌, ℕ, List, [], ap, sym, ◌∙◌}
use Rattle.record_scripts.specs.Job.{Job}
use Rattle.record_book.specs.RecordedTrace.{recorded}
use Rattle.record_book.specs.StreamState.{Streamed}
use Rattle.order_check.proofs.KeptLemmas.{nothing-stepped}
use Rattle.order_check.proofs.order_check.OrderCheck.begin_turn.Goals as goal

-- the script is done
pub returns-clause-gone : goal.returns-clause-gone
returns-clause-gone c =
    let old = c.let_go.new.self in
    let new = c.step.new.self in
    let text = c.in_ok-step.ensures.text in
    let none : text.0 ≡ [] =
    nothing-stepped old.job _ old.order new.order text.0 c.in_ok-step.ensures.step.order_is
    (sym c.in_ok-step.ensures.step.more_is ∙ c.if-branch.false)
    (ap (λ (job : Job). recorded job new.order) (sym c.step.ensures.job) ∙ text.2) in
    text.1 ∙ ap (λ (stream : Streamed). stream.text ++ text.0) c.let_go.ensures ∙ none
