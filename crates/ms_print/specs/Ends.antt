-- Where the lines of trees begin and end, for private clauses.
use Rattle.std.specs.Prelude.{◌≡◌, ℕ, ◌+◌, ◌<◌, ◌≤◌, List, length, drop, Some, slice_get, slice_index}
use Rattle.massif_file.specs.TreeLine.{TreeLine}
use Rattle.massif_file.specs.Trees.{Trees, no_tree, a_tree, count_of}
use Rattle.ms_print.specs.TreesOf.{later_trees, trees_of}

-- the trees that the lines from this place on say
abbrev pub trees_at : List TreeLine → ℕ → Trees
trees_at lines place = trees_of (drop place lines)

-- each line is followed by as many trees as it has children
pub record AreWhole (lines : List TreeLine) : Type 0 where
  pub whole : (place : ℕ) (line : TreeLine) → slice_get lines place ≡ Some line
      → line.children ≤ count_of (trees_at lines (place + 1))

-- behind the tree of the line at this place, the lines go on at the end
pub record IsEnd (lines : List TreeLine) (place end : ℕ) : Type 0 where
  pub later : place < end
  pub within : end ≤ length lines
  pub others : later_trees 1 (trees_at lines place) ≡ trees_at lines end

-- the ends of the lines from this place on
pub record AreEnds (lines : List TreeLine) (from : ℕ) (ends : List ℕ) : Type 0 where
  pub count : length ends ≡ length lines
  pub each : (place : ℕ) → from ≤ place → place < length lines
      → IsEnd lines place (slice_index ends place)

-- the trees below the first root
abbrev pub first_children : Trees → Trees
first_children no_tree = no_tree
first_children (a_tree bytes label children others) = children

-- the trees below the line at this place
abbrev pub children_at : List TreeLine → ℕ → Trees
children_at lines place = first_children (trees_at lines place)
