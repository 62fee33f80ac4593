use Rattle.std.proofs.Common.{◌≡◌, ◌≢◌, ℕ, List, length, subst, sym, ap, ◌∙◌, arith}
use Rattle.std.specs.Prelude.{IfOk}
use Rattle.std.proofs.lemmas.Bool.Decides.{nat_tests}
use Rattle.massif_sample.specs.Sampled.{or_none, shown_command}
use Rattle.massif_sample.proofs.Making.{or_none-empty, or_none-some}
use Rattle.massif_sample.proofs.profile.shown_command.Goals as goal

pub returns-then-is_empty : goal.returns-then-is_empty
unfolding shown_command
returns-then-is_empty c =
    let empty : length c.without_blanks-shown.result.now ≡ 0 = grind (arith, nat_tests) in
    subst (λ (t : List ℕ). IfOk c.new.result (λ text. text ≡ t))
    (sym (or_none-empty _ empty) ∙ ap or_none c.without_blanks-shown.ensures) c.new.ensures.copied

pub returns : goal.returns
unfolding shown_command
returns c =
    let some : length c.without_blanks-shown.result.now ≢ 0 = grind (arith, nat_tests) in
    subst (λ (t : List ℕ). IfOk c.new-2.result (λ text. text ≡ t))
    (sym (or_none-some _ some) ∙ ap or_none c.without_blanks-shown.ensures) c.new-2.ensures.copied
