use Rattle.std.proofs.Common.{◌≤◌, ℕ, ◌^◌, ◌++◌, ◌∷◌, List, [], length, take, take_all, sum, subst, sym, ap, ◌∙◌, arith}
use Rattle.std.proofs.lemmas.List.{take_more}
use Rattle.std.proofs.lemmas.Option.{get_or_from_slice_get, slice_get_within}
use Rattle.live_ledger.specs.LedgerState.{LedgerState}
use Rattle.ht_print.specs.FlameCosts.{flame_costs}
use Rattle.ht_print.proofs.FlameFigures.{costs-of_trace, flame_costs-bound, flame_costs-count}
use Rattle.ht_print.proofs.costs.stack_costs.Goals as goal

pub each_stack-preserved : goal.each_stack-preserved
each_stack-preserved c =
    let costs : List ℕ = flame_costs c.args.cost c.args.peaks.now in
    let stack : ℕ = c.each_stack.stack in
    let count = flame_costs-count c.args.cost c.args.peaks.now c.peak_total-total.ensures.sound in
    let held = slice_get_within costs stack c.cost_of.result c.cost_of.ensures in
    c.in_ok-push.ensures.items
    ∙ ap (λ (xs : List ℕ). xs ++ c.cost_of.result ∷ []) c.each_stack.invariant
    ∙ ap (λ (cost : ℕ). take stack costs ++ cost ∷ [])
    (sym (get_or_from_slice_get costs stack c.cost_of.result 0 c.cost_of.ensures))
    ∙ sym (take_more costs stack 0 held)

pub returns-clause-costs : goal.returns-clause-costs
returns-clause-costs c =
    let count = flame_costs-count c.args.cost c.args.peaks.now c.peak_total-total.ensures.sound in
    let all = c.stacks-stacks.ensures.value in
    let same = ap (λ (ledger : LedgerState). ledger.stacks) c.ledger.ensures in
    c.each_stack.invariant ∙ take_all c.each_stack.stack (flame_costs c.args.cost c.args.peaks.now) (omega arith)

pub returns-clause-trace : goal.returns-clause-trace
returns-clause-trace c =
    λ events stands. returns-clause-costs c
    ∙ costs-of_trace c.args.cost c.args.peaks.now events c.peak_total-total.ensures.sound stands

pub returns-clause-count : goal.returns-clause-count
returns-clause-count c =
    ap (λ (xs : List ℕ). length xs) (returns-clause-costs c)
    ∙ flame_costs-count c.args.cost c.args.peaks.now c.peak_total-total.ensures.sound

pub returns-clause-bound : goal.returns-clause-bound
returns-clause-bound c =
    subst (λ (xs : List ℕ). sum xs ≤ 2 ^ 62) (sym (returns-clause-costs c))
    (flame_costs-bound c.args.cost c.args.peaks.now c.peak_total-total.ensures.sound)
