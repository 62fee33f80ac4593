-- The lines and the text of a profile.
use Rattle.std.specs.Prelude.{ℕ, suc, ◌-◌, List, [], ◌∷◌, ◌++◌, length, decimal, codes}
use Rattle.massif_file.specs.TreeLine.{TreeLine}
use Rattle.massif_file.specs.declared.profile.Snap.{Snap}
use Rattle.massif_file.specs.declared.profile.Profile.{Profile}
use Rattle.massif_file.specs.Blanks.{blanks}
use Rattle.massif_file.specs.Fields.{unit_name, mark_name}
use Rattle.massif_file.specs.Levels.{after_line}

-- the lines, each with a line feed at its end
abbrev pub text_of : List (List ℕ) → List ℕ
text_of [] = []
text_of (line ∷ lines) = line ++ (10 ∷ text_of lines)

-- `nC: B LABEL`
abbrev pub node_text : TreeLine → List ℕ
node_text line = 110
    ∷ (decimal line.children ++ (58 ∷ 32 ∷ (decimal line.bytes ++ (32 ∷ line.label))))

-- The lines of a tree, each after as many blanks as its level. What is to come before them says the levels.
abbrev pub tree_lines : List ℕ → List TreeLine → List (List ℕ)
tree_lines to_come [] = []
tree_lines to_come (line ∷ lines) = (blanks (length to_come - 1) ++ node_text line)
    ∷ tree_lines (after_line line.children to_come) lines

abbrev pub separator : List ℕ
separator = codes "#-----------"

-- the first lines of the snapshot with this number
abbrev pub head_lines : ℕ → ℕ → List (List ℕ)
head_lines n time = separator ∷ (codes "snapshot=" ++ decimal n) ∷ separator
    ∷ (codes "time=" ++ decimal time) ∷ []

-- the lines of its sizes, in bytes
abbrev pub size_lines : Snap → List (List ℕ)
size_lines snap =
    (codes "mem_heap_B=" ++ decimal snap.heap)
    ∷ (codes "mem_heap_extra_B=" ++ decimal snap.extra)
    ∷ (codes "mem_stacks_B=" ++ decimal snap.stacks)
    ∷ []

-- the lines of its tree
abbrev pub mark_lines : Snap → List (List ℕ)
mark_lines snap = (codes "heap_tree=" ++ mark_name snap.mark) ∷ tree_lines (1 ∷ []) snap.tree

-- all lines of the snapshot with this number
abbrev pub snap_lines : ℕ → Snap → List (List ℕ)
snap_lines n snap = head_lines n snap.time ++ (size_lines snap ++ mark_lines snap)

-- the lines of the snapshots, which are numbered from this number on
abbrev pub snaps_lines : ℕ → List Snap → List (List ℕ)
snaps_lines n [] = []
snaps_lines n (snap ∷ snaps) = snap_lines n snap ++ snaps_lines (suc n) snaps

-- the lines of a profile
abbrev pub massif_lines : Profile → List (List ℕ)
massif_lines profile =
    (codes "desc: " ++ profile.desc)
    ∷ (codes "cmd: " ++ profile.cmd)
    ∷ (codes "time_unit: " ++ unit_name profile.unit)
    ∷ snaps_lines 0 profile.snaps

-- its text
abbrev pub massif_text : Profile → List ℕ
massif_text profile = text_of (massif_lines profile)
