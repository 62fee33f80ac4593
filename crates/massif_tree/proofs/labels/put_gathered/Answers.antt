use Rattle.std.specs.Prelude.{codes}
use Rattle.std.proofs.lemmas.Result.{on_ok_weaker}
use Rattle.massif_tree.specs.Labels.{gathered_label, places_label, threshold_text}
use Rattle.massif_tree.proofs.Appends.{three-appended}
use Rattle.massif_tree.proofs.labels.put_gathered.Goals as goal

pub returns : goal.returns
unfolding gathered_label
returns c = record {
  appended = on_ok_weaker c.put_bytes.result
      (λ added. three-appended c.args.out.now.items c.put_places.new.out.items c.put_threshold.new.out.items
      c.put_bytes.new.out.items
      (places_label c.args.places) (threshold_text c.args.threshold) (codes ")")
      c.in_ok-put_places.ensures.appended c.in_ok-put_threshold.ensures.appended added)
      c.put_bytes.ensures.appended;
}
