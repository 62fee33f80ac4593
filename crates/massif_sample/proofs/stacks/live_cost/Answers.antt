use Rattle.std.proofs.Common.{◌≡◌, ℕ, Bool, true, false, cond, ap, sym, ◌∙◌, rules}
use Rattle.std.specs.Prelude.{slice_index_or}
use Rattle.live_ledger.specs.LedgerState.{figures_at}
use Rattle.live_ledger.specs.declared.figures.Figures.{Figures}
use Rattle.massif_sample.proofs.stacks.live_cost.Goals as goal

pub returns-then-judged-stack : goal.returns-then-judged-stack
returns-then-judged-stack c =
    let flag : slice_index_or c.args.judged.now c.args.stack false ≡ true = search rules in
    sym (ap (λ (b : Bool). cond {A = ℕ} b 0 (figures_at c.args.ledger.now c.args.stack).live) flag)

pub returns : goal.returns
returns c =
    let flag : slice_index_or c.args.judged.now c.args.stack false ≡ false = search rules in
    ap (λ (f : Figures). f.live) c.stack.ensures.value
    ∙ sym (ap (λ (b : Bool). cond {A = ℕ} b 0 (figures_at c.args.ledger.now c.args.stack).live) flag)
