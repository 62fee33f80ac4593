-- Lemmas on the trees that lines say.
use Rattle.std.proofs.Common.{◌≡◌, ℕ, zero, suc, ◌+◌, ◌-◌, ◌<◌, ◌≤◌, List, [], ◌∷◌, ◌++◌, length, drop, set, inl, inr}
use Rattle.std.proofs.Common.{Some, refl, sym, ap, ◌∙◌, subst, arith, append_assoc}
use Rattle.std.specs.Prelude.{slice_get}
use Rattle.std.proofs.Math.Seq.{drop-cons}
use Rattle.std.proofs.lemmas.Bool.{cases_lt}
use Rattle.std.proofs.lemmas.Grind.{get_or-set_at}
use Rattle.std.proofs.lemmas.List.{append-nil, get_or-set_other, length-set}
use Rattle.std.proofs.lemmas.Option.{get_or_from_slice_get, slice_get_within}
use Rattle.massif_file.specs.TreeLine.{TreeLine}
use Rattle.massif_file.specs.Trees.{Trees, no_tree, a_tree, count_of, lines_of, IsTree}
use Rattle.ms_print.specs.Ends.{AreEnds, AreWhole, IsEnd, children_at, first_children, trees_at}
use Rattle.ms_print.specs.Shown.{beside}
use Rattle.ms_print.specs.TreesOf.{first_trees, later_trees, trees_of}

-- ---- trees in two parts

pub later-more : (n : ℕ) (trees : Trees) → later_trees 1 (later_trees n trees) ≡ later_trees (suc n) trees
later-more zero trees = refl
later-more (suc n) no_tree = refl
later-more (suc n) (a_tree bytes label children others) = later-more n others

pub count-later : (n : ℕ) (trees : Trees) → count_of (later_trees n trees) ≡ count_of trees - n
count-later zero trees = omega arith
count-later (suc n) no_tree = omega arith
count-later (suc n) (a_tree bytes label children others) = let rest = count-later n others in omega arith

first-beside : (trees more : Trees) → first_trees (count_of trees) (beside trees more) ≡ trees
first-beside no_tree more = refl
first-beside (a_tree bytes label children others) more =
    ap (λ (t : Trees). a_tree bytes label children t) (first-beside others more)

later-beside : (trees more : Trees) → later_trees (count_of trees) (beside trees more) ≡ more
later-beside no_tree more = refl
later-beside (a_tree bytes label children others) more = later-beside others more

count-beside : (trees more : Trees) → count_of (beside trees more) ≡ count_of trees + count_of more
count-beside no_tree more = omega arith
count-beside (a_tree bytes label children others) more = let rest = count-beside others more in omega arith

-- ---- the lines of trees say these trees

pub trees-of-lines : (trees : Trees) (rest : List TreeLine)
    → trees_of (lines_of trees ++ rest) ≡ beside trees (trees_of rest)
trees-of-lines no_tree rest = refl
trees-of-lines (a_tree bytes label children others) rest =
    let more : Trees = beside others (trees_of rest) in
    let below : trees_of ((lines_of children ++ lines_of others) ++ rest) ≡ beside children more =
    ap trees_of (append_assoc (lines_of children) (lines_of others) rest)
    ∙ trees-of-lines children (lines_of others ++ rest) ∙ ap (beside children) (trees-of-lines others rest) in
    ap (λ (t : Trees). a_tree bytes label (first_trees (count_of children) t) (later_trees (count_of children) t)) below
    ∙ ap (λ (t : Trees). a_tree bytes label t (later_trees (count_of children) (beside children more)))
    (first-beside children more)
    ∙ ap (λ (t : Trees). a_tree bytes label children t) (later-beside children more)

-- ---- each line is followed by its children

whole-cons : (line : TreeLine) (lines : List TreeLine) → line.children ≤ count_of (trees_of lines) → AreWhole lines
    → AreWhole (line ∷ lines)
whole-cons line lines here later = record { whole = by }
  where
    by : (place : ℕ) (other : TreeLine) → slice_get (line ∷ lines) place ≡ Some other
        → other.children ≤ count_of (trees_at (line ∷ lines) (place + 1))
    by zero other is =
        let same : line ≡ other = cc in
        subst (λ (l : TreeLine). l.children ≤ count_of (trees_of lines)) same here
    by (suc place) other is =
        subst (λ (k : ℕ). other.children ≤ count_of (trees_at (line ∷ lines) k)) {x = suc (place + 1)} {y = suc place
        + 1} (omega arith) (later.whole place other is)

whole-lines : (trees : Trees) (rest : List TreeLine) → AreWhole rest → AreWhole (lines_of trees ++ rest)
whole-lines no_tree rest whole = whole
whole-lines (a_tree bytes label children others) rest whole =
    let apart = append_assoc (lines_of children) (lines_of others) rest in
    let count : count_of children ≤ count_of (trees_of ((lines_of children ++ lines_of others) ++ rest)) =
    (let all = ap (λ (ls : List TreeLine). count_of (trees_of ls)) apart
    ∙ ap count_of (trees-of-lines children (lines_of others ++ rest))
    ∙ count-beside children (trees_of (lines_of others ++ rest)) in omega arith) in
    whole-cons (record { children = count_of children; bytes = bytes; label = label })
    ((lines_of children ++ lines_of others) ++ rest) count
    (subst AreWhole (sym apart) (whole-lines children (lines_of others ++ rest) (whole-lines others rest whole)))

pub tree-whole : (lines : List TreeLine) → IsTree lines → AreWhole lines
tree-whole lines is =
    subst AreWhole (append-nil (lines_of is.tree) ∙ sym is.same)
    (whole-lines is.tree [] (record { whole = λ place line held. absurd cc }))

pub tree-some : (lines : List TreeLine) → IsTree lines → 0 < length lines
tree-some lines is = subst (λ (ls : List TreeLine). 0 < length ls) (sym is.same) (by is.tree is.one)
  where
    by : (trees : Trees) → count_of trees ≡ 1 → 0 < length (lines_of trees)
    by no_tree one = absurd (omega arith)
    by (a_tree bytes label children others) one = omega arith

-- ---- the trees from a place on

drop-at : (lines : List TreeLine) (place : ℕ) (line : TreeLine) → slice_get lines place ≡ Some line
    → drop place lines ≡ line ∷ drop (place + 1) lines
drop-at lines place line held =
    drop-cons lines place line (slice_get_within lines place line held)
    ∙ ap (λ (l : TreeLine). l ∷ drop (suc place) lines) (get_or_from_slice_get lines place line line held)
    ∙ ap (λ (k : ℕ). line ∷ drop k lines) {x = suc place} {y = place + 1} (omega arith)

pub trees-at : (lines : List TreeLine) (place : ℕ) (line : TreeLine) → slice_get lines place ≡ Some line
    → trees_at lines place
    ≡ a_tree line.bytes line.label (first_trees line.children (trees_at lines (place + 1)))
    (later_trees line.children (trees_at lines (place + 1)))
trees-at lines place line held = ap trees_of (drop-at lines place line held)

pub children-at : (lines : List TreeLine) (place : ℕ) (line : TreeLine) → slice_get lines place ≡ Some line
    → children_at lines place ≡ first_trees line.children (trees_at lines (place + 1))
children-at lines place line held = ap first_children (trees-at lines place line held)

-- where there is a tree, there is a line
pub some-line : (lines : List TreeLine) (place : ℕ) → 0 < count_of (trees_at lines place) → place < length lines
some-line [] zero some = absurd (omega arith)
some-line [] (suc place) some = absurd (omega arith)
some-line (line ∷ lines) zero some = omega arith
some-line (line ∷ lines) (suc place) some = let rest = some-line lines place some in omega arith

-- ---- from one child to the next

-- so many children are passed, and the next ones begin at this place
pub record IsPassed (lines : List TreeLine) (place : ℕ) (count next : ℕ) : Type 0 where
  pub later : place < next
  pub within : next ≤ length lines
  pub rest : trees_at lines next ≡ later_trees count (trees_at lines (place + 1))

pub passed-none : (lines : List TreeLine) (place : ℕ) → place < length lines → IsPassed lines place 0 (place + 1)
passed-none lines place held = record { later = omega arith; within = omega arith; rest = refl }

-- the next child is there
pub passed-some : (lines : List TreeLine) (place : ℕ) (line : TreeLine) (count next : ℕ) → AreWhole lines
    → slice_get lines place ≡ Some line → IsPassed lines place count next → count < line.children → next < length lines
passed-some lines place line count next whole held passed more =
    let enough = whole.whole place line held in
    let left = ap count_of passed.rest ∙ count-later count (trees_at lines (place + 1)) in
    some-line lines next (omega arith)

pub passed-more : (lines : List TreeLine) (place count next end : ℕ) → IsPassed lines place count next
    → IsEnd lines next end → IsPassed lines place (count + 1) end
passed-more lines place count next end passed is =
    let later = passed.later in
    let behind = is.later in
    record {
      later = omega arith;
      within = is.within;
      rest =
          sym is.others
          ∙ ap (later_trees 1) passed.rest
          ∙ later-more count (trees_at lines (place + 1))
          ∙ ap (λ (k : ℕ). later_trees k (trees_at lines (place + 1))) {x = suc count} {y = count + 1} (omega arith);
    }

-- behind all children the tree of the line ends
pub passed-all : (lines : List TreeLine) (place : ℕ) (line : TreeLine) (end : ℕ) → slice_get lines place ≡ Some line
    → IsPassed lines place line.children end → IsEnd lines place end
passed-all lines place line end held passed = record {
  later = passed.later;
  within = passed.within;
  others = ap (later_trees 1) (trees-at lines place line held) ∙ sym passed.rest;
}

-- ---- ends that are known from a place on

pub ends-none : (lines : List TreeLine) (ends : List ℕ) → length ends ≡ length lines → AreEnds lines (length lines) ends
ends-none lines ends count = record { count = count; each = λ place from within. absurd (omega arith) }

pub ends-more : (lines : List TreeLine) (ends : List ℕ) (from end : ℕ) → 0 < from → from ≤ length lines
    → AreEnds lines from ends → IsEnd lines (from - 1) end → AreEnds lines (from - 1) (set ends (from - 1) end)
ends-more lines ends from end some low known is = record {
  count = length-set ends (from - 1) end ∙ known.count;
  each = λ place later within. elim (cases_lt place from) [
    | inl here ↦ subst (λ (e : ℕ). IsEnd lines place e)
        (sym (get_or-set_at ends (from - 1) place end 0 (omega arith) (let count = known.count in omega arith)))
        (subst (λ (p : ℕ). IsEnd lines p end) {x = from - 1} {y = place} (omega arith) is)
    | inr above ↦ subst (λ (e : ℕ). IsEnd lines place e)
        (sym (get_or-set_other ends (from - 1) place end 0 (λ e. absurd (omega arith)))) (known.each place above within)
  ];
}

-- fewer are known
pub ends-fewer : (lines : List TreeLine) (ends : List ℕ) (from more : ℕ) → from ≤ more → AreEnds lines from ends
    → AreEnds lines more ends
ends-fewer lines ends from more low known =
    record { count = known.count; each = λ place later within. known.each place (omega arith) within }
