-- Lemmas on the bar of a column, as snapshots come one by one.
use Rattle.std.proofs.Common.{◌≡◌, ◌≢◌, ℕ, suc, ◌+◌, ◌-◌, ◌<◌, get_or, set, eqb-true, ◌≤◌, Bool, true, false, cond, ltb}
use Rattle.std.proofs.Common.{eqb, ◌&&◌, List, [], ◌∷◌, ◌++◌, length, take, Option, Some, None, refl, sym, ap, ◌∙◌}
use Rattle.std.proofs.Common.{arith}
use Rattle.std.specs.Prelude.{IfSome, slice_get, option_map}
use Rattle.std.specs.Option.{option_or}
use Rattle.std.proofs.lemmas.Bool.Decides.{nat_tests}
use Rattle.std.proofs.lemmas.Bool.{eqb-false}
use Rattle.std.proofs.lemmas.Grind.{get_or-set_at}
use Rattle.std.proofs.lemmas.List.{get_or-set_other}
use Rattle.massif_file.specs.declared.profile.HeapTree.{HeapTree}
use Rattle.massif_file.specs.declared.profile.HeapTree.TheVariants.{Empty, Detailed, Peak}
use Rattle.massif_file.specs.declared.profile.Snap.{Snap}
use Rattle.ms_print.specs.declared.bars.Bar.{Bar}
use Rattle.ms_print.specs.declared.plot.Plot.{Plot}
use Rattle.ms_print.specs.Bars.{bar_for, bar_in, last_such, nearest_bar, same_mark, shown_in, stands_in}
use Rattle.ms_print.specs.BarSteps.{better, rank_of}
use Rattle.ms_print.specs.Plots.{column_at}
use Rattle.ms_print.proofs.Lists.{take-next}

-- no snapshot, no bar
pub bar-none : (plot : Plot) (x : ℕ) → bar_in plot [] x ≡ None
unfolding shown_in
bar-none plot x = refl

-- the last that passes, with one element more at the end
pub last-push : {X : Type 0} (passes : X → Bool) (xs : List X) (x : X)
    → last_such passes (xs ++ x ∷ []) ≡ cond (passes x) (Some x) (last_such passes xs)
last-push passes [] x = refl
last-push {X} passes (y ∷ ys) x =
    ap (λ (o : Option X). option_or o (cond (passes y) (Some y) None)) (last-push passes ys x) ∙ by (passes x)
  where
    by : (b : Bool)
        → option_or (cond b (Some x) (last_such passes ys)) (cond (passes y) (Some y) None)
        ≡ cond b (Some x) (option_or (last_such passes ys) (cond (passes y) (Some y) None))
    by true = refl
    by false = refl

-- the last that passes, passes
pub last-passes : {X : Type 0} (passes : X → Bool) (xs : List X) → IfSome (last_such passes xs) (λ x. passes x ≡ true)
last-passes passes [] = tt
last-passes {X} passes (y ∷ ys) = by (last_such passes ys) (last-passes passes ys) (passes y) refl
  where
    by : (o : Option X) → IfSome o (λ x. passes x ≡ true) → (b : Bool) → passes y ≡ b
        → IfSome (option_or o (cond b (Some y) None)) (λ x. passes x ≡ true)
    by (Some x) holds b is = holds
    by None holds true is = is
    by None holds false is = tt

-- a mark that is the same
mark-is : (m n : HeapTree) → same_mark m n ≡ true → n ≡ m
mark-is Empty Empty e = refl
mark-is Detailed Detailed e = refl
mark-is Peak Peak e = refl
mark-is _ _ e = absurd cc

and-first : (a b : Bool) → a && b ≡ true → a ≡ true
and-first true b e = refl
and-first false b e = e

marked : (plot : Plot) (x : ℕ) (m : HeapTree) (snaps : List Snap)
    → IfSome (last_such (stands_in plot x m) snaps) (λ snap. snap.mark ≡ m)
marked plot x m snaps = by (last_such (stands_in plot x m) snaps) (last-passes (stands_in plot x m) snaps)
  where
    by : (o : Option Snap) → IfSome o (λ snap. stands_in plot x m snap ≡ true) → IfSome o (λ snap. snap.mark ≡ m)
    by None holds = tt
    by (Some snap) holds =
        mark-is m snap.mark (and-first (same_mark m snap.mark) (eqb (column_at plot snap.time) x) holds)

-- a bar of a higher mark stays, and every other gives way
better-later : (bar later : Bar) → rank_of bar.mark ≤ rank_of later.mark → better (Some bar) later ≡ later
better-later bar later low = by (ltb (rank_of later.mark) (rank_of bar.mark)) refl
  where
    by : (b : Bool) → ltb (rank_of later.mark) (rank_of bar.mark) ≡ b → cond b bar later ≡ later
    by true is = absurd (grind (arith, nat_tests))
    by false is = refl

better-stays : (bar later : Bar) → rank_of later.mark < rank_of bar.mark → better (Some bar) later ≡ bar
better-stays bar later high = by (ltb (rank_of later.mark) (rank_of bar.mark)) refl
  where
    by : (b : Bool) → ltb (rank_of later.mark) (rank_of bar.mark) ≡ b → cond b bar later ≡ bar
    by true is = refl
    by false is = absurd (grind (arith, nat_tests))

-- the same of two snapshots, by their marks
later-shows : (plot : Plot) (s snap : Snap) (first later : HeapTree) → s.mark ≡ first → snap.mark ≡ later
    → rank_of first ≤ rank_of later
    → Some (bar_for plot snap) ≡ Some (better (Some (bar_for plot s)) (bar_for plot snap))
later-shows plot s snap first later first-is later-is low =
    ap Some (sym
    (better-later (bar_for plot s) (bar_for plot snap)
    (let a = ap rank_of first-is in let b = ap rank_of later-is in omega arith)))

first-shows : (plot : Plot) (s snap : Snap) (first later : HeapTree) → s.mark ≡ first → snap.mark ≡ later
    → rank_of later < rank_of first
    → Some (bar_for plot s) ≡ Some (better (Some (bar_for plot s)) (bar_for plot snap))
first-shows plot s snap first later first-is later-is high =
    ap Some (sym
    (better-stays (bar_for plot s) (bar_for plot snap)
    (let a = ap rank_of first-is in let b = ap rank_of later-is in omega arith)))

rank-most : (m : HeapTree) → rank_of m ≤ 2
rank-most Empty = omega arith
rank-most Detailed = omega arith
rank-most Peak = omega arith

-- what a column shows, of the last snapshots with each mark
abbrev picked : Plot → Option Snap → Option Snap → Option Snap → Option Bar
picked plot peak detailed plain = option_map (bar_for plot) (option_or peak (option_or detailed plain))

-- with one snapshot more in the column
picked-more : (plot : Plot) (snap : Snap) (m : HeapTree) → snap.mark ≡ m → (peak detailed plain : Option Snap)
    → IfSome peak (λ s. s.mark ≡ Peak) → IfSome detailed (λ s. s.mark ≡ Detailed) → IfSome plain (λ s. s.mark ≡ Empty)
    → picked plot (cond (same_mark Peak m) (Some snap) peak) (cond (same_mark Detailed m) (Some snap) detailed)
    (cond (same_mark Empty m) (Some snap) plain)
    ≡ Some (better (picked plot peak detailed plain) (bar_for plot snap))
picked-more plot snap Peak is peak detailed plain p d n = ap Some (sym (by (picked plot peak detailed plain)))
  where
    by : (o : Option Bar) → better o (bar_for plot snap) ≡ bar_for plot snap
    by None = refl
    by (Some bar) =
        better-later bar (bar_for plot snap) (let most = rank-most bar.mark in let rank = ap rank_of is in omega arith)
picked-more plot snap Detailed is (Some s) detailed plain p d n =
    first-shows plot s snap Peak Detailed p is (omega arith)
picked-more plot snap Detailed is None (Some s) plain p d n =
    later-shows plot s snap Detailed Detailed d is (omega arith)
picked-more plot snap Detailed is None None (Some s) p d n = later-shows plot s snap Empty Detailed n is (omega arith)
picked-more plot snap Detailed is None None None p d n = refl
picked-more plot snap Empty is (Some s) detailed plain p d n = first-shows plot s snap Peak Empty p is (omega arith)
picked-more plot snap Empty is None (Some s) plain p d n = first-shows plot s snap Detailed Empty d is (omega arith)
picked-more plot snap Empty is None None (Some s) p d n = later-shows plot s snap Empty Empty n is (omega arith)
picked-more plot snap Empty is None None None p d n = refl

-- the same where it stands in the column, and where it doesn't
and-true : (a : Bool) → a && true ≡ a
and-true true = refl
and-true false = refl

and-false : (a : Bool) → a && false ≡ false
and-false true = refl
and-false false = refl

pub bar-push : (plot : Plot) (snaps : List Snap) (snap : Snap) (x : ℕ)
    → bar_in plot (snaps ++ snap ∷ []) x
    ≡ cond (eqb (column_at plot snap.time) x) (Some (better (bar_in plot snaps x) (bar_for plot snap)))
    (bar_in plot snaps x)
unfolding shown_in
bar-push plot snaps snap x =
    ap (λ (o : Option Snap). picked plot o (option Detailed (snaps ++ snap ∷ [])) (option Empty (snaps ++ snap ∷ [])))
    (more Peak)
    ∙ ap (λ (o : Option Snap). picked plot (with_one Peak) o (option Empty (snaps ++ snap ∷ []))) (more Detailed)
    ∙ ap (λ (o : Option Snap). picked plot (with_one Peak) (with_one Detailed) o) (more Empty)
    ∙ by (eqb (column_at plot snap.time) x)
  where
    option : HeapTree → List Snap → Option Snap
    option m all = last_such (stands_in plot x m) all

    with_one : HeapTree → Option Snap
    with_one m = cond (same_mark m snap.mark && eqb (column_at plot snap.time) x) (Some snap) (option m snaps)

    more : (m : HeapTree) → option m (snaps ++ snap ∷ []) ≡ with_one m
    more m = last-push (stands_in plot x m) snaps snap

    by : (b : Bool)
        → picked plot (cond (same_mark Peak snap.mark && b) (Some snap) (option Peak snaps))
        (cond (same_mark Detailed snap.mark && b) (Some snap) (option Detailed snaps))
        (cond (same_mark Empty snap.mark && b) (Some snap) (option Empty snaps))
        ≡ cond b
        (Some (better (picked plot (option Peak snaps) (option Detailed snaps) (option Empty snaps))
        (bar_for plot snap)))
        (picked plot (option Peak snaps) (option Detailed snaps) (option Empty snaps))
    by true =
        ap (λ (b : Bool). picked plot (cond b (Some snap) (option Peak snaps))
        (cond (same_mark Detailed snap.mark && true) (Some snap) (option Detailed snaps))
        (cond (same_mark Empty snap.mark && true) (Some snap) (option Empty snaps))) (and-true
        (same_mark Peak snap.mark))
        ∙ ap (λ (b : Bool). picked plot (cond (same_mark Peak snap.mark) (Some snap) (option Peak snaps))
        (cond b (Some snap) (option Detailed snaps))
        (cond (same_mark Empty snap.mark && true) (Some snap) (option Empty snaps))) (and-true
        (same_mark Detailed snap.mark))
        ∙ ap (λ (b : Bool). picked plot (cond (same_mark Peak snap.mark) (Some snap) (option Peak snaps))
        (cond (same_mark Detailed snap.mark) (Some snap) (option Detailed snaps))
        (cond b (Some snap) (option Empty snaps))) (and-true
        (same_mark Empty snap.mark))
        ∙ picked-more plot snap snap.mark refl (option Peak snaps) (option Detailed snaps) (option Empty snaps)
        (marked plot x Peak snaps) (marked plot x Detailed snaps) (marked plot x Empty snaps)
    by false =
        ap (λ (b : Bool). picked plot (cond b (Some snap) (option Peak snaps))
        (cond (same_mark Detailed snap.mark && false) (Some snap) (option Detailed snaps))
        (cond (same_mark Empty snap.mark && false) (Some snap) (option Empty snaps))) (and-false
        (same_mark Peak snap.mark))
        ∙ ap (λ (b : Bool). picked plot (option Peak snaps) (cond b (Some snap) (option Detailed snaps))
        (cond (same_mark Empty snap.mark && false) (Some snap) (option Empty snaps))) (and-false
        (same_mark Detailed snap.mark))
        ∙ ap (λ (b : Bool). picked plot (option Peak snaps) (option Detailed snaps)
        (cond b (Some snap) (option Empty snaps))) (and-false
        (same_mark Empty snap.mark))

pub bar-next : (plot : Plot) (snaps : List Snap) (k : ℕ) (snap : Snap) (x : ℕ) → slice_get snaps k ≡ Some snap
    → bar_in plot (take (k + 1) snaps) x
    ≡ cond (eqb (column_at plot snap.time) x) (Some (better (bar_in plot (take k snaps) x) (bar_for plot snap)))
    (bar_in plot (take k snaps) x)
bar-next plot snaps k snap x held =
    ap (λ (all : List Snap). bar_in plot all x) (take-next snaps k snap held) ∙ bar-push plot (take k snaps) snap x

-- the bars of all columns, with the bar of one more snapshot
pub bars-next : (plot : Plot) (snaps : List Snap) (place : ℕ) (snap : Snap) → slice_get snaps place ≡ Some snap
    → (bars : List (Option Bar)) (column : ℕ) (now : Option Bar) → 0 < column → column ≤ plot.width
    → column ≡ column_at plot snap.time → length bars ≡ plot.width
    → now ≡ Some (better (get_or bars (column - 1) None) (bar_for plot snap))
    → (k : ℕ) → get_or bars k None ≡ bar_in plot (take place snaps) (k + 1)
    → get_or (set bars (column - 1) now) k None ≡ bar_in plot (take (place + 1) snaps) (k + 1)
bars-next plot snaps place snap held bars column now first last column_is count now_is k before =
    by (eqb (column_at plot snap.time) (k + 1)) refl
  where
    by : (b : Bool) → eqb (column_at plot snap.time) (k + 1) ≡ b
        → get_or (set bars (column - 1) now) k None ≡ bar_in plot (take (place + 1) snaps) (k + 1)
    by true is =
        let same : column_at plot snap.time ≡ k + 1 = eqb-true (column_at plot snap.time) (k + 1) is in
        let here : column - 1 ≡ k = omega arith in
        get_or-set_at bars (column - 1) k now None (sym here) (omega arith)
        ∙ now_is
        ∙ ap (λ (i : ℕ). Some (better (get_or bars i None) (bar_for plot snap))) here
        ∙ ap (λ (o : Option Bar). Some (better o (bar_for plot snap))) before
        ∙ sym (ap
        (λ (b : Bool). cond b (Some (better (bar_in plot (take place snaps) (k + 1)) (bar_for plot snap)))
        (bar_in plot (take place snaps) (k + 1)))
        is)
        ∙ sym (bar-next plot snaps place snap (k + 1) held)
    by false is =
        let other : column_at plot snap.time ≢ k + 1 = eqb-false (column_at plot snap.time) (k + 1) is in
        get_or-set_other bars (column - 1) k now None (λ e. other (omega arith))
        ∙ before
        ∙ sym (ap
        (λ (b : Bool). cond b (Some (better (bar_in plot (take place snaps) (k + 1)) (bar_for plot snap)))
        (bar_in plot (take place snaps) (k + 1)))
        is)
        ∙ sym (bar-next plot snaps place snap (k + 1) held)

-- the nearest bar, one column further
pub nearest-more : (plot : Plot) (snaps : List Snap) (k : ℕ)
    → nearest_bar plot snaps (k + 1) ≡ option_or (bar_in plot snaps (k + 1)) (nearest_bar plot snaps k)
nearest-more plot snaps k =
    ap (nearest_bar plot snaps) {x = k + 1} {y = suc k} (omega arith)
    ∙ ap (λ (i : ℕ). option_or (bar_in plot snaps i) (nearest_bar plot snaps k)) {x = suc k} {y = k + 1} (omega arith)
