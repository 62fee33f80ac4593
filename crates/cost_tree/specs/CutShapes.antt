-- Lists of numbers that are cut, for private clauses.
use Rattle.std.specs.Prelude.{◌≡◌, ℕ, ◌+◌, ◌-◌, ◌*◌, ◌==◌, ◌<◌, ◌&&◌, not, min, nat_lt, if◌then◌else◌, List, [], ◌∷◌}
use Rattle.std.specs.Prelude.{Some, length, map, slice_get, take, slice_index}
use Rattle.std.specs.Str.{bytes_eq}
use Rattle.cost_tree.specs.declared.cut.Cut.{Cut}
use Rattle.cost_tree.specs.declared.scale.Scale.{Scale}
use Rattle.cost_tree.specs.CostLines.{is_small}
use Rattle.cost_tree.specs.Cuts.{cut_lists}

-- a list that begins with what is left of one that is cut is cut there too
abbrev pub AreCutAlike : List (List ℕ) → List ℕ → Type 0
AreCutAlike whole counts = (s t count other : ℕ) (list begins : List ℕ)
    → slice_get whole s ≡ Some list → slice_get whole t ≡ Some begins
    → slice_get counts s ≡ Some count → slice_get counts t ≡ Some other → count < length list
    → take count begins ≡ take count list → other ≡ count

-- the lists are the first ones of whole lists, and each has at least one number, where the whole one has
pub record IsCutOf (whole : List (List ℕ)) (cut : Cut) : Type 0 where
  pub count : length cut.counts.items ≡ length whole
  pub lengths : cut.lengths.items ≡ map length whole
  pub lists : cut.shape ≡ cut_lists cut.counts.items whole
  pub some : (k count : ℕ) → slice_get cut.counts.items k ≡ Some count → 0 < count
  pub alike : AreCutAlike whole cut.counts.items

-- how many numbers aren't there yet
abbrev pub left : List ℕ → List ℕ → ℕ
left [] lengths = 0
left (count ∷ counts) [] = 0
left (count ∷ counts) (most ∷ lengths) = (most - count) + left counts lengths

-- how many numbers of a cut aren't there yet
abbrev pub missing : Cut → ℕ
missing cut = left cut.counts.items cut.lengths.items

-- how many numbers come next, where so many don't do: lists that begin alike mostly differ in what comes second
unfoldable pub next_count : ℕ → ℕ
next_count count = if count == 1 then 2 else 4 * count

-- more of a list that is cut, where those that end as it does cost enough together for a line
abbrev pub raised : Scale → ℕ → ℕ → ℕ → ℕ
raised scale count most cost =
    if nat_lt count most && not (is_small scale cost) then min (next_count count) most else count

-- of all lists
unfoldable pub raised_counts : Scale → List ℕ → List ℕ → List ℕ → List ℕ
raised_counts scale [] lengths costs = []
raised_counts scale (count ∷ counts) [] costs = []
raised_counts scale (count ∷ counts) (most ∷ lengths) [] = []
raised_counts scale (count ∷ counts) (most ∷ lengths) (cost ∷ costs) =
    raised scale count most cost ∷ raised_counts scale counts lengths costs

-- what the lists cost together that are equal to a list
unfoldable pub equal_cost : List (List ℕ) → List ℕ → List ℕ → ℕ
equal_cost [] costs list = 0
equal_cost (other ∷ lists) [] list = 0
equal_cost (other ∷ lists) (cost ∷ costs) list =
    (if bytes_eq other list then cost else 0) + equal_cost lists costs list

-- what the lists cost together that end at a node
unfoldable pub ended_cost : List ℕ → List ℕ → ℕ → ℕ
ended_cost [] costs node = 0
ended_cost (end ∷ ends) [] node = 0
ended_cost (end ∷ ends) (cost ∷ costs) node =
    (if end == node then cost else 0) + ended_cost ends costs node

-- of each of so many nodes
abbrev pub AreEndedCosts : List ℕ → List ℕ → ℕ → List ℕ → Type 0
AreEndedCosts ends costs nodes sums = (node : ℕ) → node < nodes
    → slice_index sums node ≡ ended_cost ends costs node
