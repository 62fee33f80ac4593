use Rattle.std.proofs.Common.{ℕ, List, [], ◌∷◌, ◌++◌, map, take, ap, sym, ◌∙◌, subst}
use Rattle.dhat_json.specs.Shown.{shown}
use Rattle.dhat_view.specs.Numbers.{AreNumbers}
use Rattle.dhat_view.proofs.Lists.{map-next}
use Rattle.dhat_view.proofs.texts.shown_table.Goals as goal

pub each_text-preserved : goal.each_text-preserved
each_text-preserved c =
    let new = c.push.new.self in
    let before : List (List ℕ) = map shown (take c.each_text.place c.args.table.now) in
    let texts =
    ap (λ (text : List ℕ). before ++ shown text ∷ []) c.bytes.ensures.content
    ∙ sym (map-next shown c.args.table.now c.each_text.place c.at.result.now c.at.ensures.item) in
    record {
      numbers =
          subst (AreNumbers new.names new.numbers.items) texts
          (c.in_ok-push.ensures.numbers before c.each_text.invariant.numbers);
      distinct = c.in_ok-push.ensures.distinct;
    }
