-- No line is refused as truncated: that comes at the end alone.
use Rattle.std.proofs.Common.{◌≡◌, ℕ, Bool, true, false, cond, eqb, ltb, List, [], ◌∷◌, length, Option, Some, None}
use Rattle.std.proofs.Common.{Result, Ok, Err, sym, ap, ◌∙◌}
use Rattle.std.specs.Prelude.{codes, IfErr}
use Rattle.std.proofs.lemmas.Result.{IfErr-at_err}
use Rattle.massif_file.specs.declared.fault.ProfileFault.{ProfileFault}
use Rattle.massif_file.specs.declared.fault.ProfileFault.TheVariants.{BadHeader, BadSnapshot, BadNumber, WrongOrder}
use Rattle.massif_file.specs.declared.fault.ProfileFault.TheVariants.{BadTree, Truncated}
use Rattle.massif_file.specs.declared.profile.HeapTree.{HeapTree}
use Rattle.massif_file.specs.declared.profile.HeapTree.TheVariants.{Empty, Detailed, Peak}
use Rattle.massif_file.specs.declared.profile.Snap.{Snap}
use Rattle.massif_file.specs.declared.profile.Profile.{Profile}
use Rattle.massif_file.specs.Blanks.{is_skipped}
use Rattle.massif_file.specs.Fields.{value_after, header_value, max_number, number_of, or_fault, number_in, key_number}
use Rattle.massif_file.specs.Fields.{unit_in, mark_in}
use Rattle.massif_file.specs.Levels.{after_line}
use Rattle.massif_file.specs.TreeLineOf.{tree_line_of}
use Rattle.massif_file.specs.Progress.{Progress, in_descriptions, at_unit, at_snapshot, at_time, at_heap, at_extra}
use Rattle.massif_file.specs.Progress.{at_stacks, at_mark, in_tree, refused_for, go_on, with_line, after_header_line}
use Rattle.massif_file.specs.Progress.{after_mark, after_levels, after_tree_line, taken, after, fault_in}
use Rattle.massif_file.specs.LastTime.{last_time}
use Rattle.massif_file.specs.UnlessNoMemory.{UnlessNoMemory}

-- no step to here
abbrev Never : Progress → Type 0
Never p = p ≡ refused_for Truncated → ⊥

-- a step by an answer
go_on_never : {A : Type 0} (next : A → Progress) (r : Result A ProfileFault) → (r ≡ Err Truncated → ⊥)
    → ((x : A) → Never (next x)) → Never (go_on next r)
go_on_never next (Ok x) h k e = k x e
go_on_never next (Err fault) h k e = h (let same : fault ≡ Truncated = cc in ap Err same)

-- a missing value is another fault
other_never : {A : Type 0} (fault : ProfileFault) (o : Option A) → (fault ≡ Truncated → ⊥)
    → or_fault fault o ≡ Err Truncated → ⊥
other_never fault None other e = other cc
other_never fault (Some x) other e = absurd cc

-- nor is it that of a key
key_never : (key line : List ℕ) → key_number key line ≡ Err Truncated → ⊥
unfolding key_number
key_never key line = by (value_after key line)
  where
    by : (o : Option (List ℕ)) → number_in o ≡ Err Truncated → ⊥
    by None e = absurd cc
    by (Some value) e = other_never BadNumber (number_of max_number value) (λ f. absurd cc) e

-- the test of the times
order_never : (t : Bool) (p : Progress) → Never p → Never (cond t (refused_for WrongOrder) p)
order_never true p h e = absurd cc
order_never false p h e = h e

-- the test of a snapshot's number
place_never : (t : Bool) (p : Progress) → Never p → Never (cond t p (refused_for WrongOrder))
place_never true p h e = h e
place_never false p h e = absurd cc

-- the test of the levels
deep_never : (t : Bool) (p : Progress) → Never p → Never (cond t (refused_for BadTree) p)
deep_never true p h e = absurd cc
deep_never false p h e = h e

-- after a mark
mark_never : (profile : Profile) (time heap extra stacks : ℕ) (mark : HeapTree)
    → Never (after_mark profile
    (record { time = time; heap = heap; extra = extra; stacks = stacks; mark = mark; tree = [] }) mark)
mark_never profile time heap extra stacks Empty e = absurd cc
mark_never profile time heap extra stacks Detailed e = absurd cc
mark_never profile time heap extra stacks Peak e = absurd cc

-- after a line of a tree
levels_never : (profile : Profile) (snap : Snap) (to_come : List ℕ) → Never (after_levels profile snap to_come)
levels_never profile snap [] e = absurd cc
levels_never profile snap (n ∷ outer) e = absurd cc

-- a line of the header
command_never : (desc line : List ℕ) (o : Option (List ℕ)) → Never (after_header_line desc line o)
command_never desc line (Some value) e = absurd cc
command_never desc line None e =
    go_on_never (at_unit desc) (or_fault BadHeader (header_value (codes "cmd:") line))
    (other_never BadHeader (header_value (codes "cmd:") line) (λ f. absurd cc)) (λ x f. absurd cc) e

-- a line that is not skipped
taken_never : (p : Progress) (line : List ℕ) → fault_in p ≡ None → Never (taken p line)
unfolding taken
taken_never (in_descriptions desc) line t = command_never desc line (header_value (codes "desc:") line)
taken_never (at_unit desc cmd) line t =
    go_on_never (λ unit. at_snapshot (record { desc = desc; cmd = cmd; unit = unit; snaps = [] }))
    (or_fault BadHeader (unit_in (header_value (codes "time_unit:") line)))
    (other_never BadHeader (unit_in (header_value (codes "time_unit:") line)) (λ f. absurd cc)) (λ x e. absurd cc)
taken_never (at_snapshot profile) line t =
    go_on_never (λ n. cond (eqb n (length profile.snaps)) (at_time profile) (refused_for WrongOrder))
    (key_number (codes "snapshot=") line) (key_never (codes "snapshot=") line)
    (λ n. place_never (eqb n (length profile.snaps)) (at_time profile) (λ e. absurd cc))
taken_never (at_time profile) line t =
    go_on_never (λ time. cond (ltb time (last_time profile.snaps)) (refused_for WrongOrder) (at_heap profile time))
    (key_number (codes "time=") line) (key_never (codes "time=") line)
    (λ time. order_never (ltb time (last_time profile.snaps)) (at_heap profile time) (λ e. absurd cc))
taken_never (at_heap profile time) line t =
    go_on_never (at_extra profile time) (key_number (codes "mem_heap_B=") line) (key_never (codes "mem_heap_B=") line)
    (λ x e. absurd cc)
taken_never (at_extra profile time heap) line t =
    go_on_never (at_stacks profile time heap) (key_number (codes "mem_heap_extra_B=") line)
    (key_never (codes "mem_heap_extra_B=") line) (λ x e. absurd cc)
taken_never (at_stacks profile time heap extra) line t =
    go_on_never (at_mark profile time heap extra) (key_number (codes "mem_stacks_B=") line)
    (key_never (codes "mem_stacks_B=") line) (λ x e. absurd cc)
taken_never (at_mark profile time heap extra stacks) line t =
    go_on_never
    (λ mark. after_mark profile
    (record { time = time; heap = heap; extra = extra; stacks = stacks; mark = mark; tree = [] }) mark)
    (or_fault BadSnapshot (mark_in (value_after (codes "heap_tree=") line)))
    (other_never BadSnapshot (mark_in (value_after (codes "heap_tree=") line)) (λ f. absurd cc))
    (mark_never profile time heap extra stacks)
taken_never (in_tree profile snap to_come) line t =
    deep_never (ltb 257 (length to_come))
    (go_on (after_tree_line profile snap to_come) (or_fault BadTree (tree_line_of line)))
    (go_on_never (after_tree_line profile snap to_come) (or_fault BadTree (tree_line_of line))
    (other_never BadTree (tree_line_of line) (λ f. absurd cc))
    (λ node. levels_never profile (with_line snap node) (after_line node.children to_come)))
taken_never (refused_for fault) line t = absurd cc

-- any line
after_never : (p : Progress) (line : List ℕ) → fault_in p ≡ None → Never (after p line)
after_never p line t = by (is_skipped line)
  where
    by : (s : Bool) → Never (cond s p (taken p line))
    by true e = absurd (let f : None ≡ Some Truncated = sym t ∙ ap fault_in e in cc)
    by false e = taken_never p line t e

-- the answer of a call
pub never_truncated : (p : Progress) (line : List ℕ) (r : Result (Unit {0}) ProfileFault)
    → IfErr r (λ fault. UnlessNoMemory fault (after p line ≡ refused_for fault)) → fault_in p ≡ None → r ≡ Err Truncated
    → ⊥
never_truncated p line r h t e =
    after_never p line t (IfErr-at_err (λ fault. UnlessNoMemory fault (after p line ≡ refused_for fault)) e h)
