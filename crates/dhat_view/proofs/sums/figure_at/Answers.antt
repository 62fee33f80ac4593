use Rattle.std.proofs.Common.{ℕ, Option, Some, sym, ap, ◌∙◌}
use Rattle.std.specs.Option.{unwrap_or}
use Rattle.dhat_view.proofs.Costs.{cost-held}
use Rattle.dhat_view.proofs.sums.figure_at.Goals as goal

pub returns : goal.returns
returns c = record {
  figure = cost-held c.args.key c.args.dhat.now c.args.place c.at.result.now c.at.ensures.item
      ∙ sym (ap (λ (n : ℕ). Some n)
      (c.unwrap_or.ensures ∙ ap (λ (found : Option ℕ). unwrap_or found 0) c.figure.ensures.figure));
}
