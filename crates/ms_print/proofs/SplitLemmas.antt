-- Lemmas on the children of an entry, as they are shared out one by one.
use Rattle.std.proofs.Common.{◌≡◌, ℕ, suc, ◌+◌, ◌-◌, ◌^◌, ◌<◌, min, Bool, true, false, cond, eqb, List, [], ◌∷◌, ◌++◌}
use Rattle.std.proofs.Common.{Some, refl, sym, ap, ◌∙◌, subst, arith, append_assoc}
use Rattle.std.specs.Prelude.{slice_get}
use Rattle.massif_file.specs.TreeLine.{TreeLine}
use Rattle.massif_file.specs.Trees.{Trees, no_tree, a_tree}
use Rattle.ms_print.specs.declared.children.Gathered as gathered_places
use Rattle.ms_print.specs.declared.children.Entry.TheVariants.{Gathered}
use Rattle.ms_print.specs.declared.children.Pending.{Pending}
use Rattle.ms_print.specs.declared.entry.Scale.{Scale}
use Rattle.ms_print.specs.Ends.{IsEnd, children_at, trees_at}
use Rattle.ms_print.specs.Entries.{gathered_label, is_small}
use Rattle.ms_print.specs.Pendings.{AreRoots, AreSmall, IsRoot, pending_gathered}
use Rattle.ms_print.specs.Shown.{beside, gathered, kept, shown, small_bytes, small_places}
use Rattle.ms_print.specs.TreesOf.{first_trees, later_trees}
use Rattle.ms_print.proofs.TreesOfLemmas.{children-at, trees-at}

-- of all children those that are left are still to be shared out; of the others these are shown, and so many are small
pub record IsSplit (scale : Scale) (lines : List TreeLine) (indent : ℕ) (all left : Trees) (places bytes : ℕ)
    (items : List Pending) : Type 0 where
  pub places_is : places + small_places scale left ≡ small_places scale all
  pub bytes_is : min (bytes + small_bytes scale left) (2 ^ 64 - 1) ≡ min (small_bytes scale all) (2 ^ 64 - 1)
  pub kept_is : (more : List Pending) (trees : Trees)
      → AreRoots scale lines indent more (beside (kept scale left) trees)
      → AreRoots scale lines indent (items ++ more) (beside (kept scale all) trees)

pub split-none : (scale : Scale) (lines : List TreeLine) (indent : ℕ) (all : Trees)
    → IsSplit scale lines indent all all 0 0 []
split-none scale lines indent all =
    record {
      places_is = omega arith;
      bytes_is =
          ap (λ (n : ℕ). min n (2 ^ 64 - 1)) {x = 0 + small_bytes scale all} {y = small_bytes scale all} (omega arith);
      kept_is = λ more trees roots. roots;
    }

-- the same by equal numbers and entries
pub split-same : (scale : Scale) (lines : List TreeLine) (indent : ℕ) (all left : Trees) {places places' bytes
    bytes' : ℕ} {items items' : List Pending} → places' ≡ places → bytes' ≡ bytes → items' ≡ items
    → IsSplit scale lines indent all left places bytes items → IsSplit scale lines indent all left places' bytes' items'
split-same scale lines indent all left p b i split = rw (p, b, i) split

pub split-small : (scale : Scale) (lines : List TreeLine) (indent : ℕ) (all : Trees) (b : ℕ) (label : List ℕ)
    (children others : Trees) (places bytes : ℕ) (items : List Pending)
    → is_small scale b ≡ true → IsSplit scale lines indent all (a_tree b label children others) places bytes items
    → IsSplit scale lines indent all others (places + 1) (min (bytes + b) (2 ^ 64 - 1)) items
split-small scale lines indent all b label children others places bytes items small split =
    let count : small_places scale (a_tree b label children others) ≡ 1 + small_places scale others =
    ap (λ (t : Bool). cond t (1 + small_places scale others) (small_places scale others)) small in
    let sum : small_bytes scale (a_tree b label children others) ≡ b + small_bytes scale others =
    ap (λ (t : Bool). cond t (b + small_bytes scale others) (small_bytes scale others)) small in
    let places_was = split.places_is in
    let bytes_was = split.bytes_is in
    let same : kept scale (a_tree b label children others) ≡ kept scale others =
    kept-small scale b label children others small in
    record {
      places_is = omega arith;
      bytes_is = omega arith;
      kept_is =
          λ more trees roots. split.kept_is more trees
          (subst (λ (t : Trees). AreRoots scale lines indent more (beside t trees)) (sym same) roots);
    }
  where
    kept-small : (scale : Scale) (b : ℕ) (label : List ℕ) (children others : Trees) → is_small scale b ≡ true
        → kept scale (a_tree b label children others) ≡ kept scale others
    kept-small scale b label children others small =
        ap (λ (t : Bool). cond t (kept scale others)
        (a_tree b label
        (beside (kept scale children) (gathered scale (small_places scale children) (small_bytes scale children)))
        (kept scale others)))
        small

pub split-kept : (scale : Scale) (lines : List TreeLine) (indent : ℕ) (all : Trees) (b : ℕ) (label : List ℕ)
    (children others : Trees) (places bytes : ℕ) (items : List Pending) (p : Pending)
    → is_small scale b ≡ false → IsRoot scale lines indent p b label (shown scale children)
    → IsSplit scale lines indent all (a_tree b label children others) places bytes items
    → IsSplit scale lines indent all others places bytes (items ++ p ∷ [])
unfolding shown
split-kept scale lines indent all b label children others places bytes items p large root split =
    let count : small_places scale (a_tree b label children others) ≡ small_places scale others =
    ap (λ (t : Bool). cond t (1 + small_places scale others) (small_places scale others)) large in
    let sum : small_bytes scale (a_tree b label children others) ≡ small_bytes scale others =
    ap (λ (t : Bool). cond t (b + small_bytes scale others) (small_bytes scale others)) large in
    let places_was = split.places_is in
    let bytes_was = split.bytes_is in
    let same : kept scale (a_tree b label children others) ≡ a_tree b label (shown scale children) (kept scale others) =
    ap (λ (t : Bool). cond t (kept scale others) (a_tree b label (shown scale children) (kept scale others))) large in
    record {
      places_is = omega arith;
      bytes_is = omega arith;
      kept_is = λ more trees roots.
          subst (λ (ps : List Pending). AreRoots scale lines indent ps (beside (kept scale all) trees))
          (sym (append_assoc items (p ∷ []) more))
          (split.kept_is (p ∷ more) trees
          (subst (λ (t : Trees). AreRoots scale lines indent (p ∷ more) (beside t trees)) (sym same) (root, roots)));
    }

-- all are shared out
pub split-roots : (scale : Scale) (lines : List TreeLine) (indent : ℕ) (all left : Trees) (places bytes : ℕ)
    (items : List Pending)
    → left ≡ no_tree → IsSplit scale lines indent all left places bytes items
    → (more : List Pending) (trees : Trees) → AreRoots scale lines indent more trees
    → AreRoots scale lines indent (items ++ more) (beside (kept scale all) trees)
split-roots scale lines indent all left places bytes items none split more trees roots =
    split.kept_is more trees
    (subst (λ (t : Trees). AreRoots scale lines indent more (beside (kept scale t) trees)) (sym none) roots)

pub split-small-all : (scale : Scale) (lines : List TreeLine) (indent : ℕ) (all left : Trees)
    (small : gathered_places.Gathered) (items : List Pending)
    → left ≡ no_tree → small.bytes < 2 ^ 64 → IsSplit scale lines indent all left small.places small.bytes items
    → AreSmall scale all small
split-small-all scale lines indent all left small items none fits split =
    let places = ap (small_places scale) none in
    let bytes = ap (small_bytes scale) none in
    let places_was = split.places_is in
    let bytes_was = split.bytes_is in
    record { places = omega arith; bytes = omega arith }

-- the entry of the small ones
pub roots-gathered : (scale : Scale) (lines : List TreeLine) (indent : ℕ) (all : Trees)
    (small : gathered_places.Gathered)
    → AreSmall scale all small
    → AreRoots scale lines indent (pending_gathered indent small)
    (gathered scale (small_places scale all) (small_bytes scale all))
roots-gathered scale lines indent all small are =
    subst (λ (n : ℕ). AreRoots scale lines indent (pending_gathered indent small)
    (gathered scale n (small_bytes scale all))) are.places (by
    (eqb small.places 0))
  where
    by : (b : Bool)
        → AreRoots scale lines indent (cond b [] (record { indent = indent; entry = Gathered small } ∷ []))
        (cond b no_tree
        (a_tree (min (small_bytes scale all) (2 ^ 64 - 1)) (gathered_label scale small.places) no_tree no_tree))
    by true = tt
    by false = (record { indented = refl; held = tt; bytes_is = are.bytes; label_is = refl; children_is = refl }, tt)

-- what is left begins with the next child
pub left-next : (lines : List TreeLine) (child end count next : ℕ) (line : TreeLine) → slice_get lines child ≡ Some line
    → IsEnd lines child end → next < count
    → first_trees (count - next) (trees_at lines child)
    ≡ a_tree line.bytes line.label (children_at lines child) (first_trees (count - (next + 1)) (trees_at lines end))
left-next lines child end count next line held is more =
    let rest : Trees = later_trees line.children (trees_at lines (child + 1)) in
    let behind : rest ≡ trees_at lines end = sym (ap (later_trees 1) (trees-at lines child line held)) ∙ is.others in
    ap (λ (n : ℕ). first_trees n (trees_at lines child)) {x = count - next} {y = suc (count - (next + 1))} (omega arith)
    ∙ ap (first_trees (suc (count - (next + 1)))) (trees-at lines child line held)
    ∙ ap (λ (below : Trees). a_tree line.bytes line.label below (first_trees (count - (next + 1)) rest))
    (sym (children-at lines child line held))
    ∙ ap (λ (t : Trees). a_tree line.bytes line.label (children_at lines child) (first_trees (count - (next + 1)) t))
    behind
