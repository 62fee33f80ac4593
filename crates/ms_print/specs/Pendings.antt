-- What is still to be written of a tree, for private clauses.
use Rattle.std.specs.Prelude.{◌≡◌, ℕ, ◌-◌, ◌^◌, ◌<◌, ◌≤◌, min, nat_eq, if◌then◌else◌, List, [], ◌∷◌, ◌++◌, codes}
use Rattle.std.specs.Prelude.{length, take, Option, None, Some, slice_get}
use Rattle.massif_file.specs.TreeLine.{TreeLine}
use Rattle.massif_file.specs.Trees.{Trees, no_tree, a_tree}
use Rattle.ms_print.specs.declared.children.Gathered as gathered
use Rattle.ms_print.specs.declared.children.Entry.{Entry}
use Rattle.ms_print.specs.declared.children.Entry.TheVariants.{Line, Gathered}
use Rattle.ms_print.specs.declared.children.Pending.{Pending}
use Rattle.ms_print.specs.declared.entry.Scale.{Scale}
use Rattle.ms_print.specs.Ends.{children_at}
use Rattle.ms_print.specs.Entries.{gathered_label}
use Rattle.ms_print.specs.Shown.{shown, small_bytes, small_places}
use Rattle.ms_print.specs.TreeText.{entry_line, entries_text, lines_below}

-- the bytes and the label of a line
abbrev pub bytes_of : Option TreeLine → ℕ
bytes_of None = 0
bytes_of (Some line) = line.bytes

abbrev pub label_of : Option TreeLine → List ℕ
label_of None = []
label_of (Some line) = line.label

-- of an entry its bytes, its label, and the trees that are shown below it
abbrev pub entry_bytes : List TreeLine → Entry → ℕ
entry_bytes lines (Line place) = bytes_of (slice_get lines place)
entry_bytes lines (Gathered small) = small.bytes

abbrev pub entry_label : Scale → List TreeLine → Entry → List ℕ
entry_label scale lines (Line place) = label_of (slice_get lines place)
entry_label scale lines (Gathered small) = gathered_label scale small.places

abbrev pub entry_children : Scale → List TreeLine → Entry → Trees
entry_children scale lines (Line place) = shown scale (children_at lines place)
entry_children scale lines (Gathered small) = no_tree

-- the entry is one of the lines, or none of them
abbrev pub IsHeld : List TreeLine → Entry → Type 0
IsHeld lines (Line place) = place < length lines
IsHeld lines (Gathered small) = Unit {0}

-- the entry stands so far to the right, and is this root, with what is shown below it
pub record IsRoot (scale : Scale) (lines : List TreeLine) (indent : ℕ) (pending : Pending)
    (bytes : ℕ) (label : List ℕ) (children : Trees) : Type 0 where
  pub indented : pending.indent ≡ indent
  pub held : IsHeld lines pending.entry
  pub bytes_is : entry_bytes lines pending.entry ≡ bytes
  pub label_is : entry_label scale lines pending.entry ≡ label
  pub children_is : entry_children scale lines pending.entry ≡ children

-- the entries stand side by side, and are the roots of these trees in their order
abbrev pub AreRoots : Scale → List TreeLine → ℕ → List Pending → Trees → Type 0
AreRoots scale lines indent [] no_tree = Unit {0}
AreRoots scale lines indent [] (a_tree bytes label children others) = ⊥
AreRoots scale lines indent (p ∷ ps) no_tree = ⊥
AreRoots scale lines indent (p ∷ ps) (a_tree bytes label children others) = IsRoot scale lines
    indent p bytes label children × AreRoots scale lines indent ps others

-- these are the small ones of the trees, with at most 2 ^ 64 - 1 bytes
pub record AreSmall (scale : Scale) (trees : Trees) (small : gathered.Gathered) : Type 0 where
  pub places : small.places ≡ small_places scale trees
  pub bytes : small.bytes ≡ min (small_bytes scale trees) (2 ^ 64 - 1)

-- the entry of places that are gathered, where there are some
abbrev pub pending_gathered : ℕ → gathered.Gathered → List Pending
pending_gathered indent small = if nat_eq small.places 0 then []
    else record { indent = indent; entry = Gathered small } ∷ []

-- what leads on below an entry, where these are left
abbrev pub bar_before : ℕ → List Pending → List ℕ
bar_before indent [] = codes "  "
bar_before indent (next ∷ more) = if nat_eq next.indent indent then codes "| " else codes "  "

-- the line of an entry, whose prefix is a front of this one
abbrev pub pending_line : Scale → List TreeLine → List ℕ → Pending → List ℕ
pending_line scale lines prefix p = entry_line scale (take p.indent prefix)
    (entry_bytes lines p.entry) (entry_label scale lines p.entry)

-- the lines below it, with this prefix
abbrev pub pending_below : Scale → List TreeLine → List ℕ → Pending → List ℕ
pending_below scale lines prefix p = lines_below (entry_children scale lines p.entry) prefix
    (entries_text scale prefix (entry_children scale lines p.entry))

-- the line below an entry that has no children
abbrev pub blank_below : Trees → List ℕ → List ℕ
blank_below no_tree prefix = prefix ++ codes "\n"
blank_below (a_tree bytes label children others) prefix = []

-- what is left to be written, the next entry first; its prefix and those of all others are fronts of this one
abbrev pub left_text : Scale → List TreeLine → List ℕ → List Pending → List ℕ
left_text scale lines prefix [] = []
left_text scale lines prefix (p ∷ ps) =
    pending_line scale lines prefix p
    ++ (pending_below scale lines (take p.indent prefix ++ bar_before p.indent ps) p
    ++ left_text scale lines prefix ps)

-- none stands further to the right than this, nor than the one before it
abbrev pub AreNested : ℕ → List Pending → Type 0
AreNested most [] = Unit {0}
AreNested most (p ∷ ps) = (p.indent ≤ most) × AreNested p.indent ps
