use Rattle.std.proofs.Common.{ℕ, List, [], ◌++◌, Option, sym, ap, ◌∙◌}
use Rattle.std.specs.Prelude.{unwrap_or}
use Rattle.std.proofs.lemmas.Result.{on_ok_weaker}
use Rattle.cost_tree.specs.Texts.{text_of}
use Rattle.convert.specs.Folded.{folded_name}
use Rattle.convert.proofs.lines.put_name.Goals as goal

pub returns-clause-appended : goal.returns-clause-appended
unfolding text_of
returns-clause-appended c =
    let text = ap (λ (found : Option (List ℕ)). unwrap_or found []) c.in-Some.ensures.name in
    on_ok_weaker c.put_text.result
    (λ added. added ∙ ap (λ (t : List ℕ). c.args.out.now.items ++ folded_name t) (sym text))
    c.put_text.ensures.appended
