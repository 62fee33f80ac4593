-- Lists of numbers without what those cost whose first number is too small for a line as a whole, for
-- private clauses. A list without numbers has the first number 0, which is never too small.
use Rattle.std.specs.Prelude.{◌≡◌, ℕ, zero, suc, ◌+◌, ◌<◌, ◌&&◌, ◌==◌, nat_lt, Bool, if◌then◌else◌, List, length, slice_index, slice_index_or}
use Rattle.std.specs.Prelude.{sum, take}
use Rattle.cost_tree.specs.declared.children.Gathered.{Gathered}
use Rattle.cost_tree.specs.declared.scale.Scale.{Scale}
use Rattle.cost_tree.specs.CostLines.{is_small}
use Rattle.cost_tree.specs.CutShapes.{ended_cost}

-- a list's first number, and 0 where it has none
unfoldable pub first_number : List ℕ → ℕ
first_number numbers = slice_index_or numbers 0 0

-- whether lists cost too little together that begin with a number
abbrev pub is_small_first : Scale → List ℕ → List ℕ → ℕ → Bool
is_small_first scale firsts costs first =
    nat_lt 0 first && is_small scale (ended_cost firsts costs first)

-- what is left of the cost of list k
abbrev pub left_cost : Scale → List ℕ → List ℕ → ℕ → ℕ
left_cost scale firsts costs k =
    if is_small_first scale firsts costs (slice_index firsts k) then 0 else slice_index costs k

-- whether list k costs something and is the first such list with its first number, which is too small
abbrev pub tells_small : Scale → List ℕ → List ℕ → ℕ → Bool
tells_small scale firsts costs k =
    is_small_first scale firsts costs (slice_index firsts k) && nat_lt 0 (slice_index costs k)
    && ended_cost (take k firsts) (take k costs) (slice_index firsts k) == 0

-- how many numbers below one pass a test
unfoldable pub count_below : (ℕ → Bool) → ℕ → ℕ
count_below test zero = 0
count_below test (suc n) = count_below test n + (if test n then 1 else 0)

-- what is gathered with the cost of a list, and a place more where its first number costs something
abbrev pub with_list : Gathered → ℕ → ℕ → Gathered
with_list few cost shared = record {
  places = few.places + (if nat_lt 0 shared then 1 else 0);
  cost = few.cost + cost;
}

-- the costs of lists with these first numbers are made those that are left, and what is taken out is counted
pub record TakesSmall (scale : Scale) (firsts old new : List ℕ) (few : Gathered) : Type 0 where
  pub as_many : length new ≡ length old
  pub left : (k : ℕ) → k < length old → slice_index new k ≡ left_cost scale firsts old k
  pub places : few.places ≡ count_below (tells_small scale firsts old) (length old)
  pub parts : few.cost + sum new ≡ sum old
