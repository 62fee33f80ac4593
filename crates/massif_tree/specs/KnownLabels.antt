-- The labels that are known by numbers before the lines are, for private clauses.
use Rattle.std.specs.Prelude.{◌≡◌, ℕ, ◌+◌, List, [], ◌∷◌, ◌++◌, length, slice_index_or}
use Rattle.cost_tree.specs.CostLines.{last_of}
use Rattle.cost_tree.specs.Texts.{text_of}
use Rattle.massif_file.specs.TreeLine.{TreeLine}
use Rattle.massif_tree.specs.Labels.{root_label}
use Rattle.massif_tree.specs.MassifTree.{label_of}
use Rattle.massif_file.specs.LabelledLines.{LabelledLines}

-- number 0 has the empty label, the next ones have these texts, and `root` has the root's label
pub record HoldTexts (texts : List (List ℕ)) (root : ℕ) (labels : List (List ℕ)) : Type 0 where
  pub others : List (List ℕ)
  pub root_is : root ≡ length texts + 1
  pub labels_are : labels ≡ [] ∷ (texts ++ root_label ∷ others)

-- labels that hold texts still do
abbrev pub KeepTexts : List (List ℕ) → List (List ℕ) → Type 0
KeepTexts old new = (texts : List (List ℕ)) (root : ℕ) → HoldTexts texts root old
    → HoldTexts texts root new

-- by any texts whose labels are held, a label's number is that of a front's label, where the front
-- has so many texts and the last of them this number
abbrev pub IsLabelNumber : ℕ → ℕ → ℕ → ℕ → Type 0
IsLabelNumber root level number label = (texts labels front : List (List ℕ))
    → HoldTexts texts root labels → level ≡ length front → text_of texts number ≡ last_of front
    → slice_index_or labels label [] ≡ label_of front

-- a line with a label by its number, or with an empty one
abbrev pub known_line : ℕ → ℕ → List (List ℕ) → ℕ → TreeLine
known_line children bytes labels label = record {
  children = children;
  bytes = bytes;
  label = slice_index_or labels label [];
}

-- such a line is added
abbrev pub AddsLine : ℕ → ℕ → ℕ → LabelledLines → LabelledLines → Type 0
AddsLine children bytes label old new =
    new.lines ≡ old.lines ++ known_line children bytes old.labels label ∷ []
