-- How the labels of a tree are kept: the bytes of all in one list, of which each has a part, for
-- private clauses.
use Rattle.std.specs.Prelude.{ℕ, ◌+◌, ◌≤◌, List, All, length, map, take, drop}
use Rattle.massif_file.specs.declared.labels.Span.{Span}

-- the label that has this part
abbrev pub label_kept : List ℕ → Span → List ℕ
label_kept bytes span = take span.count (drop span.start bytes)

abbrev pub labels_in : List ℕ → List Span → List (List ℕ)
labels_in bytes spans = map (label_kept bytes) spans

-- the part lies within the bytes
abbrev pub IsWithin : List ℕ → Span → Type 0
IsWithin bytes span = span.start + span.count ≤ length bytes

abbrev pub AreWithin : List ℕ → List Span → Type 0
AreWithin bytes spans = All (IsWithin bytes) spans
