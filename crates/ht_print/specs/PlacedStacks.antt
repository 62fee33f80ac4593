-- The stacks of a section by the numbers of their places, for private clauses.
use Rattle.std.specs.Prelude.{◌≡◌, ℕ, ◌+◌, ◌-◌, ◌<◌, ◌≤◌, ◌==◌, ◌^◌, ◌++◌, All, List, Some, codes, filter, length, map}
use Rattle.std.specs.Prelude.{slice_get, slice_index, sum_by, take}
use Rattle.std.specs.List.{flat_map}
use Rattle.ht_trace.specs.TableState.{TableState}
use Rattle.ht_print.specs.declared.entry.Entry.{Entry}
use Rattle.ht_print.specs.declared.placed_stacks.PlacedStacks.{PlacedStacks}
use Rattle.ht_print.specs.declared.places.Places.{Places}
use Rattle.ht_print.specs.declared.scale.Scale.{Scale}
use Rattle.ht_print.specs.Places.{TellPlaces, number_at}
use Rattle.ht_print.specs.ReportGroups.{joined, ordered_groups, places, stacks_at}
use Rattle.ht_print.specs.ReportLines.{group_at, left_line}

-- each stack has a place, whose number is below the count
pub record IsPlaced (places : Places) (entry : Entry) : Type 0 where
  pub held : entry.stack < length places.numbers.items
  pub within : number_at places entry.stack < places.count

abbrev pub AreHeld : Places → List Entry → Type 0
AreHeld places stacks = All (IsPlaced places) stacks

-- the stacks whose place has the number, as they stand
unfoldable pub stacks_numbered : Places → ℕ → List Entry → List Entry
stacks_numbered places number stacks = filter (λ entry. number_at places entry.stack == number)
    stacks

-- of the first so many stacks the last whose place has the number is the one at `at`, from 1 on;
-- there is none where that is 0
pub record IsLast (places : Places) (stacks : List Entry) (number upto at : ℕ) : Type 0 where
  pub within : at ≤ upto
  pub has : (k : ℕ) (entry : Entry) → at ≡ k + 1 → slice_get stacks k ≡ Some entry
      → number_at places entry.stack ≡ number
  pub same : stacks_numbered places number (take at stacks)
      ≡ stacks_numbered places number (take upto stacks)

-- of the first so many stacks each is linked to the last one before it with its place, and each place to its last stack
pub record AreLinked (places : Places) (stacks : List Entry) (upto : ℕ)
    (last before : List ℕ) : Type 0 where
  pub last_length : length last ≡ places.count
  pub before_length : length before ≡ upto
  pub ends : (number : ℕ) → number < places.count
      → IsLast places stacks number upto (slice_index last number)
  pub links : (k : ℕ) (entry : Entry) → k < upto → slice_get stacks k ≡ Some entry
      → IsLast places stacks (number_at places entry.stack) k (slice_index before k)

-- all stacks of a section are linked
pub record ArePlaced (places : Places) (placed : PlacedStacks) : Type 0 where
  pub held : AreHeld places placed.stacks.now
  pub linked : AreLinked places placed.stacks.now (length placed.stacks.now) placed.last.items
      placed.before.items

-- the groups of the places of the first so many stacks, each with all of its stacks
unfoldable pub groups_up_to : TableState → List Entry → ℕ → List Entry
groups_up_to tables stacks count = map (λ place. joined (stacks_at tables stacks place))
    (places tables (take count stacks))

-- whatever tables have these places, the groups are those of the stacks, in order
abbrev pub AreGroups : Places → PlacedStacks → List Entry → Type 0
AreGroups places placed groups = (tables : TableState) → TellPlaces tables places
    → All (λ stack. stack.stack ≤ length tables.nodes) placed.stacks.now
    → groups ≡ ordered_groups tables placed.stacks.now

-- and where the old groups are those up to the stack at k, the new ones are those up to the next stack
abbrev pub AddsGroup : Places → PlacedStacks → ℕ → List Entry → List Entry → Type 0
AddsGroup places placed k old new = (tables : TableState) → TellPlaces tables places
    → All (λ stack. stack.stack ≤ length tables.nodes) placed.stacks.now
    → old ≡ groups_up_to tables placed.stacks.now k
    → new ≡ groups_up_to tables placed.stacks.now (k + 1)

-- the figures sum to at most 2^62
abbrev pub HasBound : List Entry → Type 0
HasBound stacks = sum_by (λ stack. stack.figure) stacks ≤ 2 ^ 62

-- the lines of the first so many groups of the stacks, each with so many stacks, and how many groups are left
unfoldable pub groups_lines : TableState → Scale → ℕ → ℕ → List Entry → List Entry → List ℕ
groups_lines tables scale limit sub_limit stacks groups =
    flat_map (group_at tables scale sub_limit stacks) (take limit groups) ++
    left_line (codes "more places: ") (length groups - limit)
