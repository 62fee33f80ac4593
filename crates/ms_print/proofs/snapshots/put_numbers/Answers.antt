use Rattle.std.proofs.Common.{◌++◌, Vec, Global, List, ℕ, take, sym, ap, ◌∙◌}
use Rattle.std.specs.Prelude.{codes}
use Rattle.std.specs.List.{join_by}
use Rattle.hp_num.proofs.Laws.{extends_more, extends_trans}
use Rattle.ms_print.specs.SnapshotsText.{marked_number, number_texts}
use Rattle.ms_print.proofs.NumberLemmas.{is_none, joined-more, none-push, numbers-more, numbers-same}
use Rattle.ms_print.proofs.snapshots.put_numbers.Goals as goal
use Rattle.ms_print.proofs.snapshots.put_numbers.Goals.{then-has_tree+in_ok-put_comma+in_ok-put_number, else-has_tree}

pub returns-in_err-put_comma-clause-kept : goal.returns-in_err-put_comma-clause-kept
returns-in_err-put_comma-clause-kept c =
    extends_trans c.args.out.now.items c.each_snap.out.items c.put_comma.new.out.items
    (extends_more c.args.out.now.items c.each_snap.out.items _ c.each_snap.invariant.written) c.put_comma.ensures.kept

pub returns-in_err-put_number-clause-kept : goal.returns-in_err-put_number-clause-kept
returns-in_err-put_number-clause-kept c =
    extends_trans c.args.out.now.items c.put_comma.new.out.items c.put_number.new.out.items
    (extends_trans c.args.out.now.items c.each_snap.out.items c.put_comma.new.out.items
    (extends_more c.args.out.now.items c.each_snap.out.items _ c.each_snap.invariant.written)
    c.put_comma.ensures.kept)
    c.put_number.ensures.kept

pub each_snap-preserved : goal.each_snap-preserved
each_snap-preserved c =
    elim c.if-has_tree.branch [
      | then-has_tree+in_ok-put_comma+in_ok-put_number w ↦
          let more =
          numbers-more c.args.snaps.now c.each_snap.place c.at.result.now c.at.ensures.item
          (sym c.has_tree.ensures ∙ w.if-has_tree.true) in
          record {
            first =
                w.is_first-is
                ∙ sym
                (ap is_none more
                ∙ none-push (number_texts 0 (take c.each_snap.place c.args.snaps.now))
                (marked_number c.each_snap.place c.at.result.now.mark));
            written =
                ap (λ (v : Vec ℕ Global). v.items) w.out-is
                ∙ joined-more (number_texts 0 (take c.each_snap.place c.args.snaps.now)) _
                (marked_number c.each_snap.place c.at.result.now.mark) c.args.out.now.items c.each_snap.out.items
                w.put_comma.new.out.items w.put_number.new.out.items c.each_snap.is_first
                more c.each_snap.invariant.first c.each_snap.invariant.written w.in_ok-put_comma.ensures.appended
                w.in_ok-put_number.ensures.appended;
          }
      | else-has_tree w ↦
          let same =
          numbers-same c.args.snaps.now c.each_snap.place c.at.result.now c.at.ensures.item
          (sym c.has_tree.ensures ∙ w.if-has_tree.false) in
          record {
            first = w.is_first-is ∙ c.each_snap.invariant.first ∙ sym (ap is_none same);
            written =
                ap (λ (v : Vec ℕ Global). v.items) w.out-is
                ∙ c.each_snap.invariant.written
                ∙ ap (λ (texts : List (List ℕ)). c.args.out.now.items ++ join_by (λ text. text) (codes ", ") texts)
                (sym same);
          }
    ]
