use Rattle.std.proofs.Common.{ℕ, List, ◌++◌, sym, ap, ◌∙◌}
use Rattle.std.specs.Prelude.{codes, decimal}
use Rattle.std.proofs.lemmas.Result.{on_ok_weaker}
use Rattle.massif_tree.proofs.Appends.{three-appended}
use Rattle.massif_tree.proofs.LabelTexts.{places-more, places-one}
use Rattle.massif_tree.proofs.labels.put_places.Goals as goal

pub returns-then-places-eq1 : goal.returns-then-places-eq1
returns-then-places-eq1 c = record {
  appended =
      on_ok_weaker c.put_bytes.result
      (λ added. added
      ∙ ap (λ (text : List ℕ). c.args.out.now.items ++ text) (sym (places-one c.args.places c.if-places-eq1.true)))
      c.put_bytes.ensures.appended;
}

pub returns : goal.returns
returns c = record {
  appended = on_ok_weaker c.put_bytes-3.result
      (λ added. three-appended c.args.out.now.items c.put_bytes-2.new.out.items c.put_dec.new.out.items
      c.put_bytes-3.new.out.items (codes "in ") (decimal c.args.places)
      (codes " places, all below massif's threshold (")
      c.in_ok-put_bytes.ensures.appended c.in_ok-put_dec.ensures.appended added
      ∙ ap (λ (text : List ℕ). c.args.out.now.items ++ text) (sym (places-more c.args.places c.if-places-eq1.false)))
      c.put_bytes-3.ensures.appended;
}
