use Rattle.std.proofs.Common.{ℕ, List, [], ◌∷◌, ◌++◌, take, sym, ap, ◌∙◌, append_assoc, arith, refl}
use Rattle.massif_tree.proofs.KnownTexts.{name-next}
use Rattle.massif_tree.proofs.forked_tree.add_names.Goals as goal

pub each_name-preserved : goal.each_name-preserved
each_name-preserved c =
    let names = c.args.names.now in
    let held = c.in-Some.ensures.found.0 refl in
    record {
      within = omega (arith, held.1);
      labels =
          c.in_ok-add_label.ensures.labels
          ∙ ap (λ (all : List (List ℕ)). all ++ c.in-Some.name.now ∷ []) c.each_name.invariant.labels
          ∙ append_assoc c.args.made.now.labels (take c.each_name.place names) (c.in-Some.name.now ∷ [])
          ∙ ap (λ (all : List (List ℕ)). c.args.made.now.labels ++ all)
          (sym (name-next names c.each_name.place c.in-Some.name.now c.in-Some.ensures.name));
      lines = c.in_ok-add_label.ensures.lines ∙ c.each_name.invariant.lines;
    }
