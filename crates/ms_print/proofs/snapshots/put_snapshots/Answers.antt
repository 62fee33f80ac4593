use Rattle.std.proofs.Common.{length}
use Rattle.std.specs.Prelude.{codes, decimal}
use Rattle.std.proofs.lemmas.Result.{on_ok_weaker}
use Rattle.ms_print.specs.SnapshotsText.{numbers_text, snapshots_text}
use Rattle.ms_print.proofs.Appends.{five-appended, five-kept, four-kept, three-kept}
use Rattle.hp_num.proofs.Laws.{extends_more, extends_put, extends_same}
use Rattle.ms_print.proofs.snapshots.put_snapshots.Goals as goal
use Rattle.std.proofs.Common.{◌++◌, ℕ, ap, ◌∙◌}

pub returns-clause-appended : goal.returns-clause-appended
unfolding snapshots_text
returns-clause-appended c =
    on_ok_weaker c.put_bytes-3.result
    (λ added. five-appended c.args.out.now.items c.put_bytes.new.out.items c.put_dec.new.out.items
    c.put_bytes-2.new.out.items c.put_numbers.new.out.items c.put_bytes-3.new.out.items
    (codes "Number of snapshots: ") (decimal (length c.args.snaps.now)) (codes "\n Detailed snapshots: [")
    (numbers_text c.args.snaps.now) (codes "]\n\n")
    c.in_ok-put_bytes.ensures.appended
    (c.in_ok-put_dec.ensures.appended ∙ ap (λ (n : ℕ). c.put_bytes.new.out.items ++ decimal n) c.len.ensures.length)
    c.in_ok-put_bytes-2.ensures.appended c.in_ok-put_numbers.ensures.appended added)
    c.put_bytes-3.ensures.appended

pub returns-in_err-put_bytes-2-clause-kept : goal.returns-in_err-put_bytes-2-clause-kept
returns-in_err-put_bytes-2-clause-kept c =
    three-kept _ _ _ _ (extends_more _ _ _ c.in_ok-put_bytes.ensures.appended)
    (extends_more _ _ _ c.in_ok-put_dec.ensures.appended) (extends_same _ _ c.in_err-put_bytes-2.ensures.unchanged)

pub returns-in_err-put_numbers-clause-kept : goal.returns-in_err-put_numbers-clause-kept
returns-in_err-put_numbers-clause-kept c =
    four-kept _ _ _ _ _ (extends_more _ _ _ c.in_ok-put_bytes.ensures.appended)
    (extends_more _ _ _ c.in_ok-put_dec.ensures.appended) (extends_more _ _ _ c.in_ok-put_bytes-2.ensures.appended)
    c.put_numbers.ensures.kept

pub returns-clause-kept : goal.returns-clause-kept
returns-clause-kept c =
    five-kept _ _ _ _ _ _ (extends_more _ _ _ c.in_ok-put_bytes.ensures.appended)
    (extends_more _ _ _ c.in_ok-put_dec.ensures.appended) (extends_more _ _ _ c.in_ok-put_bytes-2.ensures.appended)
    c.put_numbers.ensures.kept
    (extends_put c.put_bytes-3.result _ _ _ c.put_bytes-3.ensures.appended c.put_bytes-3.ensures.unchanged)
