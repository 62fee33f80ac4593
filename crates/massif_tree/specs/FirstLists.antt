-- What a tree needs of the stacks' trimmed lists.
use Rattle.std.specs.Prelude.{ℕ, List, map, take, ◌≡◌, ◌+◌, length, Bool}
use Rattle.std.specs.List.{range_with_len}
use Rattle.ht_trace.specs.TableState.{TableState}
use Rattle.massif_tree.specs.FunctionLists.{trimmed_texts, trimmed_before}
use Rattle.cost_tree.specs.Costed.{costed}
use Rattle.cost_tree.specs.FrameTexts.{StatesNames}
use Rattle.massif_file.specs.TreeLine.{TreeLine}
use Rattle.massif_tree.specs.declared.options.TreeOptions.{TreeOptions}
use Rattle.massif_tree.specs.MassifTree.{massif_tree}

-- the first texts of stack n as it is trimmed
abbrev pub first_texts : TableState → List (List ℕ) → ℕ → ℕ → List (List ℕ)
first_texts tables alloc_fns most n = take most (trimmed_texts tables alloc_fns n)

-- those of so many stacks, from stack 0 on
unfoldable pub first_lists : TableState → List (List ℕ) → ℕ → ℕ → List (List (List ℕ))
first_lists tables alloc_fns most count = map (first_texts tables alloc_fns most)
    (range_with_len 0 count)

-- those that a tree with these options needs of the first stacks, as many as these lists are
abbrev pub AreFirstLists : TableState → List (List ℕ) → TreeOptions → List (List (List ℕ)) → Type 0
AreFirstLists tables alloc_fns options lists =
    lists ≡ first_lists tables alloc_fns (options.depth + 1) (length lists)

-- lists that are such are such still, whatever names of allocation functions a closure with these answers states
abbrev pub KeepsFirstLists : (List ℕ → Bool → Type 0) → TableState → TreeOptions
    → List (List (List ℕ)) → List (List (List ℕ)) → Type 0
KeepsFirstLists answers tables options old new = (names : List (List ℕ)) → StatesNames answers names
    → AreFirstLists tables names options old → AreFirstLists tables names options new

-- the lines are those of the first stacks as they are trimmed, of whichever tables and names the lists are such
abbrev pub AreSnapshotLines : (List ℕ → Type 0) → TreeOptions → ℕ → List (List (List ℕ))
    → List TreeLine → Type 0
AreSnapshotLines are_costs options total lists lines =
    (tables : TableState) (names : List (List ℕ)) (costs : List ℕ)
    → AreFirstLists tables names options lists → are_costs costs
    → lines ≡ massif_tree options total (costed (trimmed_before tables names (length lists)) costs)
