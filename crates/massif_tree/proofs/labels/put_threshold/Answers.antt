use Rattle.std.proofs.Common.{◌/◌, ◌%◌}
use Rattle.std.specs.Prelude.{codes, decimal}
use Rattle.std.proofs.lemmas.Result.{on_ok_weaker}
use Rattle.hp_num.specs.Percent.{two_digits}
use Rattle.massif_tree.specs.Labels.{threshold_text}
use Rattle.massif_tree.proofs.Appends.{four-appended}
use Rattle.massif_tree.proofs.labels.put_threshold.Goals as goal

pub returns : goal.returns
unfolding threshold_text
returns c = record {
  appended = on_ok_weaker c.put_bytes-2.result
      (λ added. four-appended c.args.out.now.items c.put_dec.new.out.items c.put_bytes.new.out.items
      c.put_two_digits.new.out.items c.put_bytes-2.new.out.items
      (decimal (c.args.hundredths / 100)) (codes ".") (two_digits (c.args.hundredths % 100)) (codes "%")
      c.in_ok-put_dec.ensures.appended c.in_ok-put_bytes.ensures.appended c.in_ok-put_two_digits.ensures.appended added)
      c.put_bytes-2.ensures.appended;
}
