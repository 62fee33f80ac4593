-- Lines by the numbers of their labels, when more labels are kept.
use Rattle.std.proofs.Common.{◌≡◌, ◌<◌, ℕ, List, [], ◌∷◌, ◌++◌, length, get_or, Some, refl, ap, ◌∙◌}
use Rattle.std.specs.List.{slice_get}
use Rattle.std.specs.Option.{option_map}
use Rattle.std.proofs.Math.ListN.{get_or-append}
use Rattle.std.proofs.lemmas.List.{length-map}
use Rattle.std.proofs.lemmas.Option.{get_or_from_slice_get, slice_get-map, slice_get_read}
use Rattle.std.proofs.lemmas.List.Elements.{All-head, All-tail}
use Rattle.massif_file.specs.declared.labelled_tree.LineEntry.{LineEntry}
use Rattle.massif_file.specs.LineEntries.{HasLabel, HaveLabels, line_kept, lines_in}
use Rattle.massif_file.specs.TreeLine.{TreeLine}

-- the line with this label
abbrev labelled : LineEntry → List ℕ → TreeLine
labelled entry label = record { children = entry.children; bytes = entry.bytes; label = label }

module _ (labels more : List (List ℕ)) where
  -- a line is the same where more labels follow
  line-same : (entry : LineEntry) → HasLabel labels entry → line_kept (labels ++ more) entry ≡ line_kept labels entry
  line-same entry has = ap (labelled entry) (get_or-append labels more [] entry.label has)

  -- so are lines
  pub lines-same : (entries : List LineEntry) → HaveLabels labels entries
      → lines_in (labels ++ more) entries ≡ lines_in labels entries
  lines-same [] all = refl
  lines-same (entry ∷ entries) all =
      ap (λ (line : TreeLine). line ∷ lines_in (labels ++ more) entries)
      (line-same entry (All-head (HasLabel labels) entry entries all))
      ∙ ap (λ (lines : List TreeLine). line_kept labels entry ∷ lines)
      (lines-same entries (All-tail (HasLabel labels) entry entries all))

-- the line at a place, whose label is known
pub line-at : (labels : List (List ℕ)) (entries : List LineEntry) (i : ℕ) (entry : LineEntry) (label : List ℕ)
    → i < length (lines_in labels entries) → entry ≡ get_or entries i entry
    → slice_get labels entry.label ≡ Some label → slice_get (lines_in labels entries) i ≡ Some (labelled entry label)
line-at labels entries i entry label held is has =
    slice_get-map (line_kept labels) entries i
    ∙ ap (option_map (line_kept labels))
    (slice_get_read entries (length (lines_in labels entries)) i entry (length-map entries (line_kept labels)) held is)
    ∙ ap (λ (l : List ℕ). Some (labelled entry l)) (get_or_from_slice_get labels entry.label label [] has)
