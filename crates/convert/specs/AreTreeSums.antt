-- What the trees of a converted profile are: for each front of the points' lists the sum over the
-- points that begin with it. For each front of at most 200 texts whose points' sum isn't 0, and for
-- the empty one, one line of a tree has that sum, and no other front has a line; a line's front is
-- the labels from the root's child down to it.
use Rattle.std.specs.Prelude.{◌≡◌, ◌≢◌, ℕ, ◌<◌, ◌≤◌, List, [], length, map, Some, IfSome, slice_get}
use Rattle.cost_tree.specs.Costed.{Costed}
use Rattle.cost_tree.specs.Inclusive.{inclusive}
use Rattle.dhat_json.specs.declared.figure.FigureKey.TheVariants.{Eb, Gb}
use Rattle.dhat_json.specs.declared.profile.Dhat.{Dhat}
use Rattle.massif_file.specs.declared.profile.Profile.{Profile}
use Rattle.massif_file.specs.TreeLine.{TreeLine}
use Rattle.convert.specs.Items.{point_items}
use Rattle.convert.specs.TreeItems.{tree_items}

-- the front of each line of a tree: the labels from the root's child down to the line
abbrev pub line_fronts : List TreeLine → List (List (List ℕ))
line_fronts lines = map (λ item. item.texts) (tree_items lines)

-- each line has the sum of the items that begin with its front, which has at most so many texts
-- and, unless it is empty, a sum other than 0; each such front whose sum isn't 0, and the empty
-- one, has a line, and no two lines have one front
pub record AreTreeSums (depth : ℕ) (items : List Costed) (lines : List TreeLine) : Type 0 where
  pub count : length (line_fronts lines) ≡ length lines
  pub sum : (n : ℕ) (front : List (List ℕ)) (line : TreeLine)
      → slice_get (line_fronts lines) n ≡ Some front → slice_get lines n ≡ Some line
      → line.bytes ≡ inclusive front items
  pub short : (n : ℕ) (front : List (List ℕ)) → slice_get (line_fronts lines) n ≡ Some front
      → length front ≤ depth
  pub more_than_0 : (n : ℕ) (front : List (List ℕ)) → slice_get (line_fronts lines) n ≡ Some front
      → front ≢ [] → 0 < inclusive front items
  pub root : slice_get (line_fronts lines) 0 ≡ Some []
  pub all : (front : List (List ℕ)) → length front ≤ depth → 0 < inclusive front items
      → (n : ℕ) × (slice_get (line_fronts lines) n ≡ Some front)
  pub once : (m n : ℕ) (front : List (List ℕ)) → slice_get (line_fronts lines) m ≡ Some front
      → slice_get (line_fronts lines) n ≡ Some front → m ≡ n

-- the tree of the peak has the sums of what was live at the peak, and the last one those of what was live at the end
pub record HaveTreeSums (dhat : Dhat) (profile : Profile) : Type 0 where
  pub at_peak : IfSome (slice_get profile.snaps 0)
      (λ snap. AreTreeSums 200 (point_items Gb dhat) snap.tree)
  pub at_end : IfSome (slice_get profile.snaps 1)
      (λ snap. AreTreeSums 200 (point_items Eb dhat) snap.tree)
