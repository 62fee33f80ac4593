-- Lemmas on what children leave of a line's bytes, from the last line to the first.
use Rattle.std.proofs.Common.{◌≡◌, ℕ, zero, suc, ◌+◌, ◌-◌, ◌<◌, ◌≤◌, List, [], ◌∷◌, length, drop, reverse, set, take}
use Rattle.std.proofs.Common.{Some, refl, sym, ap, ◌∙◌, arith}
use Rattle.std.specs.Prelude.{slice_get, sum}
use Rattle.std.proofs.lemmas.List.{drop_all, length-set}
use Rattle.std.proofs.lemmas.List.Sums.{sum_by-append}
use Rattle.std.proofs.Math.Seq.{take-add}
use Rattle.massif_file.specs.TreeLine.{TreeLine}
use Rattle.convert.specs.Levels.{left_in}
use Rattle.convert.specs.TreeItems.{root_bytes}
use Rattle.convert.proofs.Walks.{drop-at}

-- what is known of the lines from a place on
pub record IsLeft (lines : List TreeLine) (left roots : List ℕ) (place : ℕ) : Type 0 where
  pub count : length left ≡ length lines
  pub leaves : drop place left ≡ left_in (drop place lines)
  pub roots_are : reverse roots ≡ root_bytes (drop place lines)

pub left-none : (lines : List TreeLine) (left roots : List ℕ) → length left ≡ length lines → roots ≡ []
    → IsLeft lines left roots (length lines)
unfolding left_in root_bytes
left-none lines left roots count none = record {
  count = count;
  leaves = drop_all (length lines) left (omega arith) ∙ ap left_in (sym (drop_all (length lines) lines (omega arith)));
  roots_are = ap reverse none ∙ ap root_bytes (sym (drop_all (length lines) lines (omega arith)));
}

-- what was written at a place, and what stood behind it
drop-set : (xs : List ℕ) (k v : ℕ) → k < length xs → drop k (set xs k v) ≡ v ∷ drop (suc k) xs
drop-set [] k v within = absurd (omega arith)
drop-set (x ∷ xs) zero v within = refl
drop-set (x ∷ xs) (suc k) v within = drop-set xs k v (omega arith)

-- one line more
pub left-next : (lines : List TreeLine) (left roots new_roots : List ℕ) (place value : ℕ) (line : TreeLine) → 0 < place
    → place ≤ length lines → IsLeft lines left roots place → slice_get lines (place - 1) ≡ Some line
    → value ≡ line.bytes - sum (take line.children (reverse roots))
    → reverse new_roots ≡ line.bytes ∷ drop line.children (reverse roots)
    → IsLeft lines (set left (place - 1) value) new_roots (place - 1)
unfolding left_in root_bytes
left-next lines left roots new_roots place value line some within is at value_is roots_new =
    let next : place - 1 + 1 ≡ place = omega arith in
    let count = is.count in
    let lines_are : drop (place - 1) lines ≡ line ∷ drop place lines =
    drop-at lines (place - 1) line at ∙ ap (λ (k : ℕ). line ∷ drop k lines) next in
    record {
      count = length-set left (place - 1) value ∙ count;
      leaves =
          drop-set left (place - 1) value (omega arith)
          ∙ ap (λ (k : ℕ). value ∷ drop k left) {x = suc (place - 1)} {y = place} (omega arith)
          ∙ ap (λ (ns : List ℕ). value ∷ ns) is.leaves
          ∙ ap (λ (n : ℕ). n ∷ left_in (drop place lines))
          (value_is ∙ ap (λ (rs : List ℕ). line.bytes - sum (take line.children rs)) is.roots_are)
          ∙ ap left_in (sym lines_are);
      roots_are =
          roots_new ∙ ap (λ (rs : List ℕ). line.bytes ∷ drop line.children rs) is.roots_are
          ∙ ap root_bytes (sym lines_are);
    }

-- all lines
pub left-all : (lines : List TreeLine) (left roots : List ℕ) → IsLeft lines left roots 0 → left ≡ left_in lines
left-all lines left roots is = is.leaves

-- one root more
pub roots-next : (roots : List ℕ) (bytes left value : ℕ) (k : ℕ) → left ≡ bytes - sum (take k roots)
    → value ≡ left - sum (take 1 (drop k roots)) → value ≡ bytes - sum (take (k + 1) roots)
roots-next roots bytes left value k left_is value_is =
    let all = ap sum (take-add k 1 roots) ∙ sum_by-append (λ (n : ℕ). n) (take k roots) (take 1 (drop k roots)) in
    omega arith
