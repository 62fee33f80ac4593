-- The snapshot that was written is the first of those that are left.
use Rattle.std.proofs.Common.{◌≡◌, ◌∙◌, ◌<◌, ◌≤◌, ◌++◌, ap, sym, ℕ, List, length, drop, get_or, arith}
use Rattle.std.proofs.lemmas.List.{append-nil, drop_all}
use Rattle.massif_file.specs.declared.profile.Snap.{Snap}
use Rattle.massif_file.specs.MassifText.{text_of, snaps_lines}
use Rattle.massif_file.proofs.WrittenLemmas.{goes_on, kept_on, snaps_step}
use Rattle.massif_file.proofs.writer.put_snaps.Goals as goal

-- where none is left, what is written is the whole
all_written : (out whole : List ℕ) (n : ℕ) (snaps : List Snap) → length snaps ≤ n
    → out ++ text_of (snaps_lines n (drop n snaps)) ≡ whole → out ≡ whole
all_written out whole n snaps done written =
    sym (append-nil out) ∙ ap (λ (left : List Snap). out ++ text_of (snaps_lines n left)) (sym (drop_all n snaps done))
    ∙ written

pub loop-n-preserved : goal.loop-n-preserved
loop-n-preserved c =
    let same = c.as_slice-snap-items.ensures.content in
    let within : c.loop-n.n < length c.args.snaps.now = omega (arith, ap length same) in
    let item : c.snap-item.result ≡ get_or c.args.snaps.now c.loop-n.n c.snap-item.result =
    c.snap-item.is ∙ ap (λ (ss : List Snap). get_or ss c.loop-n.n c.snap-item.result) same in
    record {
      kept = kept_on _ _ _ _ _ (omega arith) (omega arith) c.loop-n.invariant.kept c.put_snap.ensures.kept;
      written =
          goes_on _ _ c.args.out.now.items _ _ _ (text_of (snaps_lines 0 c.args.snaps.now))
          c.in_ok-put_snap.ensures.appended (snaps_step c.loop-n.n c.args.snaps.now c.snap-item.result within item)
          c.loop-n.invariant.written;
    }

pub returns-in_err-put_snap-clause-kept : goal.returns-in_err-put_snap-clause-kept
returns-in_err-put_snap-clause-kept c =
    kept_on _ _ _ _ _ (omega arith) (omega arith) c.loop-n.invariant.kept c.put_snap.ensures.kept

pub returns-clause-appended : goal.returns-clause-appended
returns-clause-appended c =
    all_written _ _ c.loop-n.n c.args.snaps.now (omega (arith, ap length c.as_slice-snap-items.ensures.content))
    c.loop-n.invariant.written
