-- What the lines of a Massif file say up to some line, and what may come next. What the reader
-- knows after some lines; a law ties it to the sentences below.
use Rattle.std.specs.Prelude.{ℕ, ◌==◌, nat_lt, if◌then◌else◌, List, [], ◌∷◌, ◌++◌, length, Option, Some, None, Result}
use Rattle.std.specs.Prelude.{Ok, Err, codes}
use Rattle.massif_file.specs.declared.fault.ProfileFault.{ProfileFault}
use Rattle.massif_file.specs.declared.fault.ProfileFault.TheVariants.{BadHeader, BadSnapshot, WrongOrder, BadTree}
use Rattle.massif_file.specs.declared.fault.ProfileFault.TheVariants.{Truncated}
use Rattle.massif_file.specs.declared.profile.HeapTree.{HeapTree}
use Rattle.massif_file.specs.declared.profile.HeapTree.TheVariants.{Empty, Detailed, Peak}
use Rattle.massif_file.specs.TreeLine.{TreeLine}
use Rattle.massif_file.specs.declared.profile.Snap.{Snap}
use Rattle.massif_file.specs.declared.profile.Profile.{Profile}
use Rattle.massif_file.specs.Blanks.{is_skipped}
use Rattle.massif_file.specs.Fields.{value_after, header_value, key_number, unit_in, mark_in, or_fault}
use Rattle.massif_file.specs.Descriptions.{joined}
use Rattle.massif_file.specs.LastTime.{last_time}
use Rattle.massif_file.specs.Levels.{after_line}
use Rattle.massif_file.specs.TreeLineOf.{tree_line_of}

-- The header's texts so far; the header and the whole snapshots so far, with the first lines of the
-- next; or why a line is refused.
pub data Progress : Type 0 where
  in_descriptions : (desc : List ℕ) → Progress
  at_unit : (desc cmd : List ℕ) → Progress
  at_snapshot : (profile : Profile) → Progress
  at_time : (profile : Profile) → Progress
  at_heap : (profile : Profile) (time : ℕ) → Progress
  at_extra : (profile : Profile) (time heap : ℕ) → Progress
  at_stacks : (profile : Profile) (time heap extra : ℕ) → Progress
  at_mark : (profile : Profile) (time heap extra stacks : ℕ) → Progress
  in_tree : (profile : Profile) (snap : Snap) (to_come : List ℕ) → Progress
  refused_for : (fault : ProfileFault) → Progress

-- goes on with the value, or refuses
abbrev pub go_on : {A : Type 0} → (A → Progress) → Result A ProfileFault → Progress
go_on next (Ok x) = next x
go_on next (Err fault) = refused_for fault

-- the profile with one more snapshot, or the snapshot with one more line in its tree
abbrev pub with_snap : Profile → Snap → Profile
with_snap profile snap = record profile { snaps = profile.snaps ++ snap ∷ [] }

abbrev pub with_line : Snap → TreeLine → Snap
with_line snap line = record snap { tree = snap.tree ++ line ∷ [] }

-- where the line is no description, it is the command
abbrev pub after_header_line : List ℕ → List ℕ → Option (List ℕ) → Progress
after_header_line desc line (Some value) = in_descriptions (joined desc value)
after_header_line desc line None = go_on (at_unit desc)
    (or_fault BadHeader (header_value (codes "cmd:") line))

-- the tree of a detailed snapshot and of the peak begins with its root
abbrev pub after_mark : Profile → Snap → HeapTree → Progress
after_mark profile snap Empty = at_snapshot (with_snap profile snap)
after_mark profile snap Detailed = in_tree profile snap (1 ∷ [])
after_mark profile snap Peak = in_tree profile snap (1 ∷ [])

-- the tree ends once no line is to come
abbrev pub after_levels : Profile → Snap → List ℕ → Progress
after_levels profile snap [] = at_snapshot (with_snap profile snap)
after_levels profile snap (n ∷ outer) = in_tree profile snap (n ∷ outer)

abbrev pub after_tree_line : Profile → Snap → List ℕ → TreeLine → Progress
after_tree_line profile snap to_come line = after_levels profile (with_line snap line)
    (after_line line.children to_come)

-- after a line that is not skipped
unfoldable pub taken : Progress → List ℕ → Progress
taken (in_descriptions desc) line = after_header_line desc line (header_value (codes "desc:") line)
taken (at_unit desc cmd) line = go_on
    (λ unit. at_snapshot (record { desc = desc; cmd = cmd; unit = unit; snaps = [] }))
    (or_fault BadHeader (unit_in (header_value (codes "time_unit:") line)))
taken (at_snapshot profile) line = go_on
    (λ n. if n == length profile.snaps then at_time profile else refused_for WrongOrder)
    (key_number (codes "snapshot=") line)
taken (at_time profile) line = go_on
    (λ time. if nat_lt time (last_time profile.snaps) then refused_for WrongOrder
    else at_heap profile time) (key_number (codes "time=") line)
taken (at_heap profile time) line = go_on (at_extra profile time)
    (key_number (codes "mem_heap_B=") line)
taken (at_extra profile time heap) line = go_on (at_stacks profile time heap)
    (key_number (codes "mem_heap_extra_B=") line)
taken (at_stacks profile time heap extra) line = go_on (at_mark profile time heap extra)
    (key_number (codes "mem_stacks_B=") line)
taken (at_mark profile time heap extra stacks) line = go_on
    (λ mark. after_mark profile
    (record { time = time; heap = heap; extra = extra; stacks = stacks; mark = mark; tree = [] })
    mark) (or_fault BadSnapshot (mark_in (value_after (codes "heap_tree=") line)))
taken (in_tree profile snap to_come) line = if nat_lt 257 (length to_come) then refused_for BadTree
    else go_on (after_tree_line profile snap to_come) (or_fault BadTree (tree_line_of line))
taken (refused_for fault) line = refused_for fault

-- after a line
abbrev pub after : Progress → List ℕ → Progress
after progress line = if is_skipped line then progress else taken progress line

-- after lines
abbrev pub after_all : Progress → List (List ℕ) → Progress
after_all progress [] = progress
after_all progress (line ∷ lines) = after_all (after progress line) lines

-- what these lines say from the file's begin on
abbrev pub progress_of : List (List ℕ) → Progress
progress_of lines = after_all (in_descriptions []) lines

-- why a line was refused, if one was
abbrev pub fault_in : Progress → Option ProfileFault
fault_in (in_descriptions desc) = None
fault_in (at_unit desc cmd) = None
fault_in (at_snapshot profile) = None
fault_in (at_time profile) = None
fault_in (at_heap profile time) = None
fault_in (at_extra profile time heap) = None
fault_in (at_stacks profile time heap extra) = None
fault_in (at_mark profile time heap extra stacks) = None
fault_in (in_tree profile snap to_come) = None
fault_in (refused_for fault) = Some fault

-- the profile, where the lines may end here
abbrev pub whole : Profile → Result Profile ProfileFault
whole profile = if nat_lt 0 (length profile.snaps) then Ok profile else Err Truncated

-- what the lines are if they end here
abbrev pub end_of : Progress → Result Profile ProfileFault
end_of (in_descriptions desc) = Err Truncated
end_of (at_unit desc cmd) = Err Truncated
end_of (at_snapshot profile) = whole profile
end_of (at_time profile) = Err Truncated
end_of (at_heap profile time) = Err Truncated
end_of (at_extra profile time heap) = Err Truncated
end_of (at_stacks profile time heap extra) = Err Truncated
end_of (at_mark profile time heap extra stacks) = Err Truncated
end_of (in_tree profile snap to_come) = Err Truncated
end_of (refused_for fault) = Err fault
