use Rattle.std.proofs.Common.{◌≡◌, ℕ, List, ◌++◌, ap, sym, ◌∙◌, subst}
use Rattle.std.specs.Prelude.{All}
use Rattle.std.specs.Global.{Vec}
use Rattle.std.proofs.lemmas.Option.{get_or_from_slice_get, none-some, same_Some}
use Rattle.std.proofs.lemmas.Result.{on_ok_weaker}
use Rattle.convert.specs.Folded.{folded_line}
use Rattle.cost_tree.specs.Texts.{IsText, texts_of}
use Rattle.convert.proofs.LineTexts.{line-parts}
use Rattle.convert.proofs.Lists.{held-by}
use Rattle.convert.proofs.lines.put_line_at.Goals as goal

pub returns-in_default-clause-appended : goal.returns-in_default-clause-appended
returns-in_default-clause-appended c = λ line at.
    let sums = c.args.sums.now in
    let parts = line-parts sums.names sums.lists.keys sums.sums.items c.args.place line at in
    absurd (none-some parts.0 (c.in_default.ensures.key ∙ parts.1))

pub put_line-requires : goal.put_line-requires
put_line-requires c =
    let sums = c.args.sums.now in
    record {
      held = subst (All (IsText sums.names)) (sym c.deref.ensures.value)
          (held-by (λ (key : Vec ℕ). All (IsText sums.names) key.items) sums.lists.keys c.args.place c.in-Some.list.now
          (sym c.in-Some.ensures.key) c.requires.held);
    }

pub returns-clause-appended : goal.returns-clause-appended
returns-clause-appended c =
    let sums = c.args.sums.now in
    on_ok_weaker c.put_line.result (λ added. λ line at.
    let parts = line-parts sums.names sums.lists.keys sums.sums.items c.args.place line at in
    let key : c.in-Some.list.now ≡ parts.0 = same_Some c.in-Some.list.now parts.0 (c.in-Some.ensures.key ∙ parts.1) in
    let texts =
    ap (λ (ns : List ℕ). texts_of sums.names ns) (c.deref.ensures.value ∙ ap (λ (k : Vec ℕ). k.items) key)
    ∙ parts.3 in
    let sum : c.index.result.now ≡ line.cost =
    c.index.ensures ∙ get_or_from_slice_get sums.sums.items c.args.place line.cost c.index.result.now parts.2 in
    added
    ∙ ap (λ (ts : List (List ℕ)). c.args.out.now.items
    ++ folded_line (record { texts = ts; cost = c.index.result.now })) texts
    ∙ ap (λ (n : ℕ). c.args.out.now.items ++ folded_line (record { texts = line.texts; cost = n })) sum)
    c.put_line.ensures.appended
