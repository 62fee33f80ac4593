use Rattle.std.proofs.Common.{ℕ, List, [], ◌∷◌, ◌++◌, ap, ◌∙◌, sym, subst}
use Rattle.std.specs.Prelude.{All}
use Rattle.std.proofs.lemmas.Result.{on_ok_weaker}
use Rattle.convert.specs.Folded.{folded_name}
use Rattle.cost_tree.specs.Texts.{IsText, text_of}
use Rattle.convert.proofs.Appends.{appended-more}
use Rattle.convert.proofs.Lists.{all-front}
use Rattle.convert.specs.Numbers.{later_texts}
use Rattle.convert.proofs.LineTexts.{path-last, path-none}
use Rattle.convert.proofs.lines.put_path.Goals as goal

pub returns-in_default-clause-appended : goal.returns-in_default-clause-appended
returns-in_default-clause-appended c =
    on_ok_weaker c.put_bytes.result
    (λ added. added
    ∙ ap (λ (bytes : List ℕ). c.args.out.now.items ++ bytes)
    (sym (path-none c.args.names.now c.args.list.now c.in_default.ensures.cases)))
    c.put_bytes.ensures.appended

pub put_before-requires : goal.put_before-requires
put_before-requires c = record {
  held =
      all-front (IsText c.args.names.now) c.in-Some.before.now (c.in-Some.last.now ∷ [])
      (subst (λ (ns : List ℕ). All (IsText c.args.names.now) ns) c.in-Some.ensures.cases.0 c.requires.held);
}

pub returns-clause-appended : goal.returns-clause-appended
returns-clause-appended c =
    let names = c.args.names.now in
    on_ok_weaker c.put_before.result
    (λ added. appended-more c.args.out.now.items c.put_name.new.out.items c.put_before.new.out.items
    (folded_name (text_of names c.in-Some.last.now)) (later_texts names c.in-Some.before.now) _
    c.in_ok-put_name.ensures.appended added
    (path-last names c.args.list.now c.in-Some.before.now c.in-Some.last.now c.in-Some.ensures.cases.0))
    c.put_before.ensures.appended
