-- Lemmas on the rows of a graph and of a table.
use Rattle.std.proofs.Common.{◌≡◌, ℕ, zero, suc, ◌+◌, ◌-◌, ◌<◌, List, ◌∷◌, ◌++◌, length, drop, Some, sym, ap, ◌∙◌}
use Rattle.std.proofs.Common.{arith, append_assoc}
use Rattle.std.specs.Prelude.{slice_get}
use Rattle.std.proofs.Math.Seq.{drop-cons}
use Rattle.std.proofs.lemmas.List.{length-drop}
use Rattle.std.proofs.lemmas.Option.{get_or_from_slice_get, slice_get_within}
use Rattle.massif_file.specs.declared.profile.TimeUnit.{TimeUnit}
use Rattle.massif_file.specs.declared.profile.Snap.{Snap}
use Rattle.ms_print.specs.declared.plot.Plot.{Plot}
use Rattle.ms_print.specs.GraphText.{row_text, rows_text}
use Rattle.ms_print.specs.TableText.{below_row, snap_row, snap_rows}

-- the top one of the rows, and those below it
pub rows-top : (plot : Plot) (snaps : List Snap) (y : ℕ) → 0 < y
    → rows_text plot snaps y ≡ row_text plot snaps (y - 1 + 1) ++ rows_text plot snaps (y - 1)
rows-top plot snaps zero some = absurd (omega arith)
rows-top plot snaps (suc y) some =
    ap (λ (k : ℕ). row_text plot snaps k ++ rows_text plot snaps y) {x = suc y} {y = suc y - 1 + 1} (omega arith)
    ∙ ap (λ (k : ℕ). row_text plot snaps (suc y - 1 + 1) ++ rows_text plot snaps k) {x = y} {y = suc y - 1}
    (omega arith)

-- the first of the snapshots that are left has its row, and what stands below it
pub rows-next : (threshold : ℕ) (unit : TimeUnit) (snaps : List Snap) (place : ℕ) (snap : Snap)
    → slice_get snaps place ≡ Some snap
    → snap_rows threshold unit place (drop place snaps)
    ≡ (snap_row place snap ++ below_row threshold unit snap snap.mark (length snaps - place - 1))
    ++ snap_rows threshold unit (place + 1) (drop (place + 1) snaps)
rows-next threshold unit snaps place snap held =
    let within = slice_get_within snaps place snap held in
    let later : List Snap = drop (suc place) snaps in
    let count : length later ≡ length snaps - place - 1 = omega (arith, length-drop (suc place) snaps) in
    ap (snap_rows threshold unit place)
    (drop-cons snaps place snap within
    ∙ ap (λ (s : Snap). s ∷ later) (get_or_from_slice_get snaps place snap snap held))
    ∙ ap (λ (n : ℕ). snap_row place snap
    ++ (below_row threshold unit snap snap.mark n ++ snap_rows threshold unit (suc place) later)) count
    ∙ ap (λ (k : ℕ). snap_row place snap
    ++ (below_row threshold unit snap snap.mark (length snaps - place - 1)
    ++ snap_rows threshold unit k (drop k snaps))) {x = suc
    place} {y = place
    + 1} (omega arith)
    ∙ sym (append_assoc (snap_row place snap) (below_row threshold unit snap snap.mark (length snaps - place - 1))
    (snap_rows threshold unit (place + 1) (drop (place + 1) snaps)))
