-- A line that the reader refuses is one that can't follow the lines before it, for that fault.
use Rattle.std.proofs.Common.{◌≡◌, ℕ, Bool, true, false, cond, eqb, ltb, List, [], ◌∷◌, length, Option, Some, None}
use Rattle.std.proofs.Common.{Result, Ok, Err, refl, sym, ap, subst, ◌∙◌, arith, inl, inr, eq-eqb, ltb-true}
use Rattle.std.specs.Prelude.{codes, slice_get}
use Rattle.std.specs.Option.{option_map}
use Rattle.std.proofs.lemmas.Bool.{ltb-false}
use Rattle.std.proofs.lemmas.List.{append-nil}
use Rattle.std.proofs.lemmas.Option.{same_Some}
use Rattle.massif_file.specs.declared.fault.ProfileFault.{ProfileFault}
use Rattle.massif_file.specs.declared.fault.ProfileFault.TheVariants.{BadHeader, BadSnapshot, BadNumber, WrongOrder}
use Rattle.massif_file.specs.declared.fault.ProfileFault.TheVariants.{BadTree, Truncated}
use Rattle.massif_file.specs.declared.profile.TimeUnit.{TimeUnit}
use Rattle.massif_file.specs.declared.profile.HeapTree.{HeapTree}
use Rattle.massif_file.specs.declared.profile.HeapTree.TheVariants.{Empty, Detailed, Peak}
use Rattle.massif_file.specs.TreeLine.{TreeLine}
use Rattle.massif_file.specs.declared.profile.Snap.{Snap}
use Rattle.massif_file.specs.declared.profile.Profile.{Profile}
use Rattle.massif_file.specs.Begins.{Begins, InSnapshot, InTree}
use Rattle.massif_file.specs.Blanks.{without_blanks}
use Rattle.massif_file.specs.Fields.{value_after, header_value, max_number, number_of, number_in, key_number, or_fault}
use Rattle.massif_file.specs.Fields.{unit_in, mark_in}
use Rattle.massif_file.specs.Items.{items_of}
use Rattle.massif_file.specs.Levels.{after_line}
use Rattle.massif_file.specs.Progress.{Progress, in_descriptions, at_unit, at_snapshot, at_time, at_heap, at_extra}
use Rattle.massif_file.specs.Progress.{at_stacks, at_mark, in_tree, refused_for, go_on, with_line, after_header_line}
use Rattle.massif_file.specs.Progress.{after_mark, after_levels, after_tree_line, taken, fault_in, end_of}
use Rattle.massif_file.specs.LastTime.{last_time}
use Rattle.massif_file.specs.Descriptions.{Describe}
use Rattle.massif_file.specs.Refuses.{AwaitsNumber, AwaitsMark, Refuses, EndsEarly, number_keys}
use Rattle.massif_file.specs.Refuses as early
use Rattle.massif_file.specs.TreeLineOf.{tree_line_of}
use Rattle.massif_file.proofs.Sound.{Stands}

-- what follows a key, with or without blanks
no_value : (o : Option (List ℕ)) → option_map without_blanks o ≡ None → o ≡ None
no_value None e = refl
no_value (Some value) e = absurd cc

-- a snapshot that only shows the numbers that were read
abbrev pub begun_snap : ℕ → ℕ → ℕ → ℕ → Snap
begun_snap time heap extra stacks =
    record { time = time; heap = heap; extra = extra; stacks = stacks; mark = Empty; tree = [] }

-- ---- how far a snapshot has come

pub none_read : (front : List (List ℕ)) (profile : Profile) (snap : Snap) → Stands front (at_snapshot profile)
    → InSnapshot front profile snap 0
none_read front profile snap h = record {
  begun = subst (Begins front profile.desc) (sym (append-nil (items_of profile))) h.0;
  right = h.1;
  in_order = λ less. absurd (omega arith);
}

pub one_read : (front : List (List ℕ)) (profile : Profile) (snap : Snap) → Stands front (at_time profile)
    → InSnapshot front profile snap 1
one_read front profile snap h = record { begun = h.0; right = h.1; in_order = λ less. absurd (omega arith) }

pub two_read : (front : List (List ℕ)) (profile : Profile) (time : ℕ) → Stands front (at_heap profile time)
    → InSnapshot front profile (begun_snap time 0 0 0) 2
two_read front profile time h = record { begun = h.0; right = h.1; in_order = λ less. h.2 }

pub three_read : (front : List (List ℕ)) (profile : Profile) (time heap : ℕ) → Stands front (at_extra profile time heap)
    → InSnapshot front profile (begun_snap time heap 0 0) 3
three_read front profile time heap h = record { begun = h.0; right = h.1; in_order = λ less. h.2 }

pub four_read : (front : List (List ℕ)) (profile : Profile) (time heap extra : ℕ)
    → Stands front (at_stacks profile time heap extra) → InSnapshot front profile (begun_snap time heap extra 0) 4
four_read front profile time heap extra h = record { begun = h.0; right = h.1; in_order = λ less. h.2 }

pub five_read : (front : List (List ℕ)) (profile : Profile) (time heap extra stacks : ℕ)
    → Stands front (at_mark profile time heap extra stacks)
    → InSnapshot front profile (begun_snap time heap extra stacks) 5
five_read front profile time heap extra stacks h = record { begun = h.0; right = h.1; in_order = λ less. h.2 }

pub tree_read : (front : List (List ℕ)) (profile : Profile) (snap : Snap) (to_come : List ℕ)
    → Stands front (in_tree profile snap to_come) → InTree front profile snap to_come
tree_read front profile snap to_come h =
    record { begun = h.0; right = h.1; in_order = h.2; marked = h.3.marked; leads = h.3.leads; more = h.3.more }

-- ---- the refused line, by what was awaited

module _ (front : List (List ℕ)) (line : List ℕ) (fault : ProfileFault) where
  -- in the header, where the line is no description
  by_command : (desc : List ℕ) (o : Option (List ℕ)) → Describe [] front desc → header_value (codes "desc:") line ≡ None
      → header_value (codes "cmd:") line ≡ o
      → fault_in (go_on (at_unit desc) (or_fault BadHeader o)) ≡ Some fault → Refuses front line fault
  by_command desc None h d c e =
      subst (Refuses front line) (same_Some BadHeader fault e) (inl (desc, h, no_value _ d, no_value _ c))
  by_command desc (Some cmd) h d c e = absurd cc

  -- in the header
  by_header : (desc : List ℕ) (o : Option (List ℕ)) → Describe [] front desc → header_value (codes "desc:") line ≡ o
      → fault_in (after_header_line desc line o) ≡ Some fault → Refuses front line fault
  by_header desc None h d e = by_command desc (header_value (codes "cmd:") line) h d refl e
  by_header desc (Some value) h d e = absurd cc

  -- at the unit
  by_unit : (desc cmd : List ℕ) (o : Option TimeUnit) → Stands front (at_unit desc cmd)
      → unit_in (header_value (codes "time_unit:") line) ≡ o
      → fault_in
      (go_on (λ unit. at_snapshot (record { desc = desc; cmd = cmd; unit = unit; snaps = [] })) (or_fault BadHeader o))
      ≡ Some fault
      → Refuses front line fault
  by_unit desc cmd None h u e =
      subst (Refuses front line) (same_Some BadHeader fault e)
      (inr (desc, cmd, h, λ unit says. let other : None ≡ Some unit = sym u ∙ says in cc))
  by_unit desc cmd (Some unit) h u e = absurd cc

  -- at a number, where there is none
  by_value : (key value : List ℕ) (o : Option ℕ) → AwaitsNumber front key → value_after key line ≡ Some value
      → number_of max_number value ≡ o → or_fault BadNumber o ≡ Err fault → Refuses front line fault
  by_value key value None a v n e = subst (Refuses front line) (ap of_error e) (key, value, a, v, n)
    where
      of_error : Result ℕ ProfileFault → ProfileFault
      of_error (Ok n) = BadNumber
      of_error (Err f) = f
  by_value key value (Some n) a v q e = absurd cc

  by_key : (key : List ℕ) (o : Option (List ℕ)) → AwaitsNumber front key → value_after key line ≡ o
      → number_in o ≡ Err fault → Refuses front line fault
  by_key key None a v e = subst (Refuses front line) (ap of_error e) (inl (key, a, v))
    where
      of_error : Result ℕ ProfileFault → ProfileFault
      of_error (Ok n) = BadSnapshot
      of_error (Err f) = f
  by_key key (Some value) a v e = by_value key value (number_of max_number value) a v refl e

  by_number : (key : List ℕ) → AwaitsNumber front key → key_number key line ≡ Err fault → Refuses front line fault
  unfolding key_number
  by_number key a e = by_key key (value_after key line) a refl e

  -- so many lines into a snapshot
  awaits : (key : List ℕ) (profile : Profile) (snap : Snap) (count : ℕ) → InSnapshot front profile snap count
      → slice_get number_keys count ≡ Some key → AwaitsNumber front key
  awaits key profile snap count begun key_is =
      record { profile = profile; snap = snap; count = count; begun = begun; key_is = key_is }

  -- at a number
  by_step : (key : List ℕ) (next : ℕ → Progress) (r : Result ℕ ProfileFault) → AwaitsNumber front key
      → key_number key line ≡ r → fault_in (go_on next r) ≡ Some fault
      → ((n : ℕ) → key_number key line ≡ Ok n → fault_in (next n) ≡ Some fault → Refuses front line fault)
      → Refuses front line fault
  by_step key next (Ok n) a q e rest = rest n q e
  by_step key next (Err f) a q e rest = by_number key a (q ∙ ap Err (same_Some f fault e))

  -- at a snapshot's number, which isn't the count
  by_place : (profile : Profile) (n : ℕ) (t : Bool) → Stands front (at_snapshot profile)
      → key_number (codes "snapshot=") line ≡ Ok n → eqb n (length profile.snaps) ≡ t
      → fault_in (cond t (at_time profile) (refused_for WrongOrder)) ≡ Some fault → Refuses front line fault
  by_place profile n true h k q e = absurd cc
  by_place profile n false h k q e =
      subst (Refuses front line) (same_Some WrongOrder fault e)
      (inl (
        profile,
        begun_snap 0 0 0 0,
        n,
        none_read front profile (begun_snap 0 0 0 0) h,
        k,
        λ same. let other : false ≡ true = sym q ∙ eq-eqb n (length profile.snaps) same in cc,
      ))

  -- at its time, which is below the last one
  by_order : (profile : Profile) (time : ℕ) (t : Bool) → Stands front (at_time profile)
      → key_number (codes "time=") line ≡ Ok time → ltb time (last_time profile.snaps) ≡ t
      → fault_in (cond t (refused_for WrongOrder) (at_heap profile time)) ≡ Some fault → Refuses front line fault
  by_order profile time true h k q e =
      subst (Refuses front line) (same_Some WrongOrder fault e)
      (inr (
        profile,
        begun_snap 0 0 0 0,
        time,
        one_read front profile (begun_snap 0 0 0 0) h,
        k,
        ltb-true time (last_time profile.snaps) q,
      ))
  by_order profile time false h k q e = absurd cc

  -- at its mark
  by_mark : (profile : Profile) (time heap extra stacks : ℕ) (o : Option HeapTree)
      → Stands front (at_mark profile time heap extra stacks) → mark_in (value_after (codes "heap_tree=") line) ≡ o
      → fault_in
      (go_on (λ mark. after_mark profile
      (record { time = time; heap = heap; extra = extra; stacks = stacks; mark = mark; tree = [] }) mark) (or_fault
      BadSnapshot o))
      ≡ Some fault
      → Refuses front line fault
  by_mark profile time heap extra stacks None h q e =
      subst (Refuses front line) (same_Some BadSnapshot fault e)
      (inr (
        record {
          profile = profile;
          snap = begun_snap time heap extra stacks;
          begun = five_read front profile time heap extra stacks h;
        },
        λ mark says. let other : None ≡ Some mark = sym q ∙ says in cc,
      ))
  by_mark profile time heap extra stacks (Some Empty) h q e = absurd cc
  by_mark profile time heap extra stacks (Some Detailed) h q e = absurd cc
  by_mark profile time heap extra stacks (Some Peak) h q e = absurd cc

  -- after a line of its tree nothing is refused
  by_levels : (profile : Profile) (snap : Snap) (next : List ℕ) → fault_in (after_levels profile snap next) ≡ Some fault
      → Refuses front line fault
  by_levels profile snap [] e = absurd cc
  by_levels profile snap (n ∷ outer) e = absurd cc

  -- in its tree, where it is not too deep
  by_node : (profile : Profile) (snap : Snap) (to_come : List ℕ) (o : Option TreeLine)
      → Stands front (in_tree profile snap to_come) → tree_line_of line ≡ o
      → fault_in (go_on (after_tree_line profile snap to_come) (or_fault BadTree o)) ≡ Some fault
      → Refuses front line fault
  by_node profile snap to_come None h q e =
      subst (Refuses front line) (same_Some BadTree fault e) (
        profile,
        snap,
        to_come,
        tree_read front profile snap to_come h,
        inr (λ node says. let other : None ≡ Some node = sym q ∙ says in cc),
      )
  by_node profile snap to_come (Some node) h q e =
      by_levels profile (with_line snap node) (after_line node.children to_come) e

  -- in its tree
  by_tree : (profile : Profile) (snap : Snap) (to_come : List ℕ) (t : Bool)
      → Stands front (in_tree profile snap to_come) → ltb 257 (length to_come) ≡ t
      → fault_in
      (cond t (refused_for BadTree)
      (go_on (after_tree_line profile snap to_come) (or_fault BadTree (tree_line_of line))))
      ≡ Some fault
      → Refuses front line fault
  by_tree profile snap to_come true h q e =
      subst (Refuses front line) (same_Some BadTree fault e)
      (profile, snap, to_come, tree_read front profile snap to_come h, inl (ltb-true 257 (length to_come) q))
  by_tree profile snap to_come false h q e = by_node profile snap to_come (tree_line_of line) h refl e

  -- wherever the lines are
  pub refused_is : (p : Progress) → Stands front p → fault_in p ≡ None → fault_in (taken p line) ≡ Some fault
      → Refuses front line fault
  unfolding taken
  refused_is (in_descriptions desc) h t e = by_header desc (header_value (codes "desc:") line) h refl e
  refused_is (at_unit desc cmd) h t e = by_unit desc cmd (unit_in (header_value (codes "time_unit:") line)) h refl e
  refused_is (at_snapshot profile) h t e =
      by_step (codes "snapshot=") _ (key_number (codes "snapshot=") line)
      (awaits _ profile (begun_snap 0 0 0 0) 0 (none_read front profile (begun_snap 0 0 0 0) h) refl)
      refl e
      (λ n k f. by_place profile n (eqb n (length profile.snaps)) h k refl f)
  refused_is (at_time profile) h t e =
      by_step (codes "time=") _ (key_number (codes "time=") line)
      (awaits _ profile (begun_snap 0 0 0 0) 1 (one_read front profile (begun_snap 0 0 0 0) h) refl)
      refl e
      (λ time k f. by_order profile time (ltb time (last_time profile.snaps)) h k refl f)
  refused_is (at_heap profile time) h t e =
      by_step (codes "mem_heap_B=") (at_extra profile time) (key_number (codes "mem_heap_B=") line)
      (awaits _ profile (begun_snap time 0 0 0) 2 (two_read front profile time h) refl)
      refl e (λ n k f. absurd cc)
  refused_is (at_extra profile time heap) h t e =
      by_step (codes "mem_heap_extra_B=") (at_stacks profile time heap) (key_number (codes "mem_heap_extra_B=") line)
      (awaits _ profile (begun_snap time heap 0 0) 3 (three_read front profile time heap h) refl)
      refl e (λ n k f. absurd cc)
  refused_is (at_stacks profile time heap extra) h t e =
      by_step (codes "mem_stacks_B=") (at_mark profile time heap extra) (key_number (codes "mem_stacks_B=") line)
      (awaits _ profile (begun_snap time heap extra 0) 4 (four_read front profile time heap extra h) refl)
      refl e (λ n k f. absurd cc)
  refused_is (at_mark profile time heap extra stacks) h t e =
      by_mark profile time heap extra stacks (mark_in (value_after (codes "heap_tree=") line)) h refl e
  refused_is (in_tree profile snap to_come) h t e = by_tree profile snap to_come (ltb 257 (length to_come)) h refl e
  refused_is (refused_for f) h t e = absurd cc

-- ---- lines that end too early

-- no snapshot
no_snaps : (snaps : List Snap) → ltb 0 (length snaps) ≡ false → snaps ≡ []
no_snaps [] e = refl
no_snaps (snap ∷ snaps) e = absurd (omega (arith, ltb-false 0 (length (snap ∷ snaps)) e))

-- where the lines may not end, they end too early
pub ends_early : (front : List (List ℕ)) (p : Progress) → Stands front p → fault_in p ≡ None → end_of p ≡ Err Truncated
    → EndsEarly front
ends_early front (in_descriptions desc) h t e = early.in_descriptions desc h
ends_early front (at_unit desc cmd) h t e = early.before_unit desc cmd h
ends_early front (at_snapshot profile) h t e = by (ltb 0 (length profile.snaps)) refl e
  where
    by : (b : Bool) → ltb 0 (length profile.snaps) ≡ b → cond b (Ok profile) (Err Truncated) ≡ Err Truncated
        → EndsEarly front
    by true q f = absurd cc
    by false q f = early.before_snapshots profile (no_snaps profile.snaps q) h.0
ends_early front (at_time profile) h t e =
    early.in_snapshot profile (begun_snap 0 0 0 0) 1 (omega arith) (omega arith)
    (one_read front profile (begun_snap 0 0 0 0) h)
ends_early front (at_heap profile time) h t e =
    early.in_snapshot profile (begun_snap time 0 0 0) 2 (omega arith) (omega arith) (two_read front profile time h)
ends_early front (at_extra profile time heap) h t e =
    early.in_snapshot profile (begun_snap time heap 0 0) 3 (omega arith) (omega arith)
    (three_read front profile time heap h)
ends_early front (at_stacks profile time heap extra) h t e =
    early.in_snapshot profile (begun_snap time heap extra 0) 4 (omega arith) (omega arith)
    (four_read front profile time heap extra h)
ends_early front (at_mark profile time heap extra stacks) h t e =
    early.in_snapshot profile (begun_snap time heap extra stacks) 5 (omega arith) (omega arith)
    (five_read front profile time heap extra stacks h)
ends_early front (in_tree profile snap to_come) h t e =
    early.in_tree profile snap to_come (tree_read front profile snap to_come h)
ends_early front (refused_for f) h t e = absurd cc
