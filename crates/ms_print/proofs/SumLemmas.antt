-- Lemmas on the sums and times of snapshots.
use Rattle.std.proofs.Common.{◌≡◌, ℕ, suc, ◌+◌, ◌-◌, ◌≤◌, max, List, [], ◌∷◌, ◌++◌, length, take, Some, refl, ap, ◌∙◌}
use Rattle.std.proofs.Common.{arith}
use Rattle.std.specs.Prelude.{All, slice_get}
use Rattle.std.proofs.lemmas.List.Elements.{All-nil, All-cons, All-weaker}
use Rattle.massif_file.specs.declared.profile.Snap.{Snap}
use Rattle.massif_file.specs.IsRight.{AreRight}
use Rattle.massif_file.specs.IsWritable.{IsWritableSnap}
use Rattle.massif_file.specs.LastTime.{last_time, time_of}
use Rattle.ms_print.specs.BarSteps.{IsPlotted}
use Rattle.ms_print.specs.Plots.{plot_of}
use Rattle.ms_print.specs.Rows.{HasTree}
use Rattle.ms_print.specs.Sums.{greatest_sum, sum_of}
use Rattle.ms_print.proofs.Lists.{take-next}

-- one snapshot more at the end
pub greatest-push : (snaps : List Snap) (snap : Snap)
    → greatest_sum (snaps ++ snap ∷ []) ≡ max (sum_of snap) (greatest_sum snaps)
greatest-push [] snap = refl
greatest-push (s ∷ snaps) snap = let rest = greatest-push snaps snap in omega arith

pub greatest-next : (snaps : List Snap) (k : ℕ) (snap : Snap) → slice_get snaps k ≡ Some snap
    → greatest_sum (take (k + 1) snaps) ≡ max (sum_of snap) (greatest_sum (take k snaps))
greatest-next snaps k snap held = ap greatest_sum (take-next snaps k snap held) ∙ greatest-push (take k snaps) snap

-- no sum is above the greatest
pub below-greatest : (snaps : List Snap) → All (λ snap. sum_of snap ≤ greatest_sum snaps) snaps
below-greatest [] = All-nil (λ snap. sum_of snap ≤ 0)
below-greatest (s ∷ snaps) =
    All-cons (λ snap. sum_of snap ≤ max (sum_of s) (greatest_sum snaps)) s snaps (omega arith)
    (All-weaker (λ snap. sum_of snap ≤ greatest_sum snaps) (λ snap. sum_of snap ≤ max (sum_of s) (greatest_sum snaps))
    (λ snap small. omega arith) snaps (below-greatest snaps))

-- no time is above the last
last-cons : (s t : Snap) (snaps : List Snap) → last_time (s ∷ t ∷ snaps) ≡ last_time (t ∷ snaps)
last-cons s t snaps =
    ap (λ (k : ℕ). time_of (slice_get (s ∷ t ∷ snaps) k)) {x = suc (suc (length snaps)) - 1} {y = suc (length snaps)}
    (omega arith)
    ∙ ap (λ (k : ℕ). time_of (slice_get (t ∷ snaps) k)) {x = length snaps} {y = suc (length snaps) - 1} (omega arith)

pub below-last : (time : ℕ) (snaps : List Snap) → AreRight time snaps → All (λ snap. snap.time ≤ last_time snaps) snaps
below-last time [] right = All-nil (λ snap. snap.time ≤ 0)
below-last time (s ∷ []) right =
    All-cons (λ snap. snap.time ≤ s.time) s [] (omega arith) (All-nil (λ snap. snap.time ≤ s.time))
below-last time (s ∷ t ∷ snaps) right =
    let rest = below-last s.time (t ∷ snaps) right.2 in
    let next = right.2.0 in
    let last = last-cons s t snaps in
    let first : t.time ≤ last_time (t ∷ snaps) = rest 0 t (omega arith) in
    All-cons (λ snap. snap.time ≤ last_time (s ∷ t ∷ snaps)) s (t ∷ snaps) (omega arith)
    (All-weaker (λ snap. snap.time ≤ last_time (t ∷ snaps)) (λ snap. snap.time ≤ last_time (s ∷ t ∷ snaps))
    (λ snap small. omega arith) (t ∷ snaps) rest)

-- all snapshots stand in their graph
pub all-plotted : (width height : ℕ) (snaps : List Snap) → AreRight 0 snaps → All IsWritableSnap snaps
    → All (IsPlotted (plot_of width height snaps)) snaps
all-plotted width height snaps right numbers = λ k d within. record {
  numbers = numbers k d within;
  in_time = below-last 0 snaps right k d within;
  below_peak = below-greatest snaps k d within;
}

-- each has a tree where its mark says so
pub all-trees : (time : ℕ) (snaps : List Snap) → AreRight time snaps → All HasTree snaps
all-trees time [] right = All-nil HasTree
all-trees time (s ∷ snaps) right = All-cons HasTree s snaps (record { tree = right.1 }) (all-trees s.time snaps right.2)
