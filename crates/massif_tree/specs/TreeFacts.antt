-- What trees of snapshots are: to a depth of at most 256 a tree's counts are right, and its levels
-- few enough; its first line has the sum of all costs; and its lines may be written where the stacks
-- can be counted, and so can what they cost, and no text begins with a blank or has a line feed.
use Rattle.std.specs.Prelude.{◌≡◌, ℕ, ◌^◌, ◌<◌, ◌≤◌, List, All, Some, length, slice_get, sum_by}
use Rattle.std.specs.Option.{option_map}
use Rattle.cost_tree.specs.Costed.{Costed}
use Rattle.ht_trace.specs.TableState.{TableState}
use Rattle.massif_file.specs.IsWritable.{IsLine, IsText, IsWritableLine}
use Rattle.massif_file.specs.Trees.{IsTree}
use Rattle.massif_tree.specs.declared.options.TreeOptions.{TreeOptions}
use Rattle.massif_tree.specs.FunctionLists.{trimmed_lists}
use Rattle.massif_tree.specs.MassifTree.{massif_tree}

-- a tree that is shallow enough may stand in a profile
abbrev pub StandsInProfile : TreeOptions → ℕ → List Costed → Type 0
StandsInProfile options total stacks = options.depth ≤ 256
    → IsTree (massif_tree options total stacks)

-- the first line has the sum of all costs
abbrev pub HasSumAtRoot : TreeOptions → ℕ → List Costed → Type 0
HasSumAtRoot options total stacks =
    option_map (λ line. line.bytes) (slice_get (massif_tree options total stacks) 0)
    ≡ Some (sum_by (λ (stack : Costed). stack.cost) stacks)

-- the lines of stacks that can be counted, with what they cost and such texts, may be written
abbrev pub MayBeWritten : TreeOptions → ℕ → List Costed → Type 0
MayBeWritten options total stacks = length stacks < 2 ^ 32
    → sum_by (λ (stack : Costed). stack.cost) stacks ≤ 2 ^ 62
    → All (λ (stack : Costed). All IsText stack.texts) stacks
    → All IsWritableLine (massif_tree options total stacks)

-- the texts of frames are such texts, where no string of the trace has a line feed
abbrev pub HasLineTexts : TableState → List (List ℕ) → Type 0
HasLineTexts tables alloc_fns = All IsLine tables.strings
    → All (All IsText) (trimmed_lists tables alloc_fns)
