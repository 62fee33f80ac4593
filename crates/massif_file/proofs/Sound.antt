-- What is taken of a file's lines says so: the lines so far are the beginning of a profile's.
use Rattle.std.proofs.Common.{◌≡◌, ℕ, suc, ◌+◌, ◌-◌, ◌<◌, ◌≤◌, Bool, true, false, cond, eqb, ltb, List, [], ◌∷◌, ◌++◌}
use Rattle.std.proofs.Common.{length, Option, Some, None, Result, Ok, Err, refl, sym, ap, subst, ◌∙◌, append_assoc}
use Rattle.std.proofs.Common.{arith}
use Rattle.std.specs.Prelude.{codes, slice_get}
use Rattle.std.proofs.lemmas.Bool.{eqb-true, ltb-false}
use Rattle.std.proofs.lemmas.List.{append-nil, map-append}
use Rattle.massif_file.specs.declared.fault.ProfileFault.{ProfileFault}
use Rattle.massif_file.specs.declared.fault.ProfileFault.TheVariants.{BadHeader, BadSnapshot, WrongOrder, BadTree}
use Rattle.massif_file.specs.declared.profile.TimeUnit.{TimeUnit}
use Rattle.massif_file.specs.declared.profile.HeapTree.{HeapTree}
use Rattle.massif_file.specs.declared.profile.HeapTree.TheVariants.{Empty, Detailed, Peak}
use Rattle.massif_file.specs.TreeLine.{TreeLine}
use Rattle.massif_file.specs.declared.profile.Snap.{Snap}
use Rattle.massif_file.specs.declared.profile.Profile.{Profile}
use Rattle.massif_file.specs.Fields.{value_after, header_value, key_number, or_fault, unit_in, mark_in}
use Rattle.massif_file.specs.Items.{Item, command_item, unit_item, number_item, mark_item, node_item, Says, Say}
use Rattle.massif_file.specs.Items.{snap_items, snaps_items, items_of}
use Rattle.massif_file.specs.Levels.{after_line}
use Rattle.massif_file.specs.TreeLineOf.{tree_line_of}
use Rattle.massif_file.specs.Progress.{Progress, in_descriptions, at_unit, at_snapshot, at_time, at_heap, at_extra}
use Rattle.massif_file.specs.Progress.{at_stacks, at_mark, in_tree, refused_for, go_on, with_snap, with_line}
use Rattle.massif_file.specs.Progress.{after_header_line, after_mark, after_levels, after_tree_line, taken}
use Rattle.massif_file.specs.Descriptions.{joined, Describe}
use Rattle.massif_file.specs.LastTime.{time_of, last_time}
use Rattle.massif_file.specs.IsRight.{IsTreeOf, AreRight}
use Rattle.massif_file.specs.Trees.{IsTree}
use Rattle.massif_file.specs.Begins.{Begins, HasTree}
use Rattle.massif_file.specs.Leads.{Leads}
use Rattle.massif_file.proofs.TreeLemmas.{tree_leads}

-- ---- lists with one more at the end

-- one line and one item more
Say-push : (lines : List (List ℕ)) (items : List Item) (line : List ℕ) (item : Item) → Say lines items → Says line item
    → Say (lines ++ line ∷ []) (items ++ item ∷ [])
Say-push [] [] line item h s = (s, tt)
Say-push [] (i ∷ is) line item h s = absurd h
Say-push (l ∷ ls) [] line item h s = absurd h
Say-push (l ∷ ls) (i ∷ is) line item h s = (h.0, Say-push ls is line item h.1 s)

-- one description more
Describe-push : (before : List ℕ) (lines : List (List ℕ)) (desc line value : List ℕ) → Describe before lines desc
    → header_value (codes "desc:") line ≡ Some value → Describe before (lines ++ line ∷ []) (joined desc value)
Describe-push before [] desc line value h e = (value, e, ap (λ (d : List ℕ). joined d value) h)
Describe-push before (l ∷ ls) desc line value h e =
    (h.0, h.1, Describe-push (joined before h.0) ls desc line value h.2 e)

-- one line of a tree more
Leads-push : (a : List ℕ) (nodes : List TreeLine) (b : List ℕ) (node : TreeLine) → Leads a nodes b → 0 < length b
    → length b ≤ 257 → Leads a (nodes ++ node ∷ []) (after_line node.children b)
Leads-push a [] b node h some few = (
  subst (λ (l : List ℕ). 0 < length l) (sym h) some,
  subst (λ (l : List ℕ). length l ≤ 257) (sym h) few,
  ap (after_line node.children) h,
)
Leads-push a (n ∷ ns) b node h some few = (h.0, h.1, Leads-push (after_line n.children a) ns b node h.2 some few)

-- the time of the last snapshot, by recursion
abbrev pub time_from : ℕ → List Snap → ℕ
time_from time [] = time
time_from time (snap ∷ snaps) = time_from snap.time snaps

-- the time of the last of some snapshots
last_of : (snap : Snap) (snaps : List Snap)
    → time_of (slice_get (snap ∷ snaps) (length snaps)) ≡ time_from snap.time snaps
last_of snap [] = refl
last_of snap (next ∷ snaps) = last_of next snaps

-- the last time, by recursion
pub last_time-is : (snaps : List Snap) → last_time snaps ≡ time_from 0 snaps
last_time-is [] = refl
last_time-is (snap ∷ snaps) =
    ap (λ (i : ℕ). time_of (slice_get (snap ∷ snaps) i)) {x = length (snap ∷ snaps) - 1} {y = length snaps}
    (omega arith)
    ∙ last_of snap snaps

-- one right snapshot more
AreRight-push : (time : ℕ) (snaps : List Snap) (snap : Snap) → AreRight time snaps → time_from time snaps ≤ snap.time
    → IsTreeOf snap.mark snap.tree → AreRight time (snaps ++ snap ∷ [])
AreRight-push time [] snap h later tree = (later, tree, tt)
AreRight-push time (s ∷ ss) snap h later tree = (h.0, h.1, AreRight-push s.time ss snap h.2 later tree)

-- the items of one snapshot more
snaps_items-push : (n : ℕ) (snaps : List Snap) (snap : Snap)
    → snaps_items n (snaps ++ snap ∷ []) ≡ snaps_items n snaps ++ snap_items (n + length snaps) snap
snaps_items-push n [] snap =
    append-nil (snap_items n snap) ∙ ap (λ (k : ℕ). snap_items k snap) {x = n} {y = n + 0} (omega arith)
snaps_items-push n (s ∷ ss) snap =
    ap (λ (is : List Item). snap_items n s ++ is) (snaps_items-push (suc n) ss snap)
    ∙ sym (append_assoc (snap_items n s) (snaps_items (suc n) ss) (snap_items (suc n + length ss) snap))
    ∙ ap (λ (k : ℕ). (snap_items n s ++ snaps_items (suc n) ss) ++ snap_items k snap) {x = suc n + length ss} {y = n
    + length (s ∷ ss)} (omega arith)

-- the same of the profile
items_of-with_snap : (profile : Profile) (snap : Snap)
    → items_of profile ++ snap_items (length profile.snaps) snap ≡ items_of (with_snap profile snap)
items_of-with_snap profile snap =
    ap (λ (is : List Item). command_item profile.cmd ∷ unit_item profile.unit ∷ is)
    (sym (snaps_items-push 0 profile.snaps snap
    ∙ ap (λ (k : ℕ). snaps_items 0 profile.snaps ++ snap_items k snap) {x = 0
    + length profile.snaps} {y = length profile.snaps} (omega arith)))

-- ---- what the lines so far say

-- one line more says one item more
Begins-push : (lines : List (List ℕ)) (desc : List ℕ) (items front : List Item) (line : List ℕ) (item : Item)
    → Begins lines desc (items ++ front) → Says line item
    → Begins (lines ++ line ∷ []) desc (items ++ (front ++ item ∷ []))
Begins-push lines desc items front line item h s = record {
  descriptions = h.descriptions;
  others = h.others ++ line ∷ [];
  parts = ap (λ (ls : List (List ℕ)). ls ++ line ∷ []) h.parts ∙ append_assoc h.descriptions h.others (line ∷ []);
  described = h.described;
  said =
      subst (λ (is : List Item). Say (h.others ++ line ∷ []) is) (append_assoc items front (item ∷ []))
      (Say-push h.others (items ++ front) line item h.said s);
}

-- the first items of a snapshot that is being read: its number
abbrev pub one_item : Profile → List Item
one_item profile = number_item (codes "snapshot=") (length profile.snaps) ∷ []

-- and its time
abbrev pub two_items : Profile → ℕ → List Item
two_items profile time = number_item (codes "snapshot=") (length profile.snaps) ∷ number_item (codes "time=") time ∷ []

-- and its heap bytes
abbrev pub three_items : Profile → ℕ → ℕ → List Item
three_items profile time heap =
    number_item (codes "snapshot=") (length profile.snaps) ∷ number_item (codes "time=") time
    ∷ number_item (codes "mem_heap_B=") heap ∷ []

-- and its extra bytes
abbrev pub four_items : Profile → ℕ → ℕ → ℕ → List Item
four_items profile time heap extra =
    number_item (codes "snapshot=") (length profile.snaps) ∷ number_item (codes "time=") time
    ∷ number_item (codes "mem_heap_B=") heap ∷ number_item (codes "mem_heap_extra_B=") extra ∷ []

-- and its stack bytes
abbrev pub five_items : Profile → ℕ → ℕ → ℕ → ℕ → List Item
five_items profile time heap extra stacks =
    number_item (codes "snapshot=") (length profile.snaps) ∷ number_item (codes "time=") time
    ∷ number_item (codes "mem_heap_B=") heap ∷ number_item (codes "mem_heap_extra_B=") extra
    ∷ number_item (codes "mem_stacks_B=") stacks ∷ []

-- a whole tree is that of a mark that has one
tree_of : (mark : HeapTree) → HasTree mark → (tree : List TreeLine) → IsTree tree → IsTreeOf mark tree
tree_of Empty has tree is = absurd has
tree_of Detailed has tree is = is
tree_of Peak has tree is = is

-- the tree of a snapshot, as far as it has come
pub record IsBegun (snap : Snap) (to_come : List ℕ) : Type 0 where
  pub marked : HasTree snap.mark
  pub leads : Leads (1 ∷ []) snap.tree to_come
  pub more : 0 < length to_come

-- what the lines say, up to where they are
abbrev pub Stands : List (List ℕ) → Progress → Type 0
Stands lines (in_descriptions desc) = Describe [] lines desc
Stands lines (at_unit desc cmd) = Begins lines desc (command_item cmd ∷ [])
Stands lines (at_snapshot profile) = Begins lines profile.desc (items_of profile) × AreRight 0 profile.snaps
Stands lines (at_time profile) =
    Begins lines profile.desc (items_of profile ++ one_item profile) × AreRight 0 profile.snaps
Stands lines (at_heap profile time) =
    Begins lines profile.desc (items_of profile ++ two_items profile time) × AreRight 0 profile.snaps
    × (last_time profile.snaps ≤ time)
Stands lines (at_extra profile time heap) =
    Begins lines profile.desc (items_of profile ++ three_items profile time heap) × AreRight 0 profile.snaps
    × (last_time profile.snaps ≤ time)
Stands lines (at_stacks profile time heap extra) =
    Begins lines profile.desc (items_of profile ++ four_items profile time heap extra) × AreRight 0 profile.snaps
    × (last_time profile.snaps ≤ time)
Stands lines (at_mark profile time heap extra stacks) =
    Begins lines profile.desc (items_of profile ++ five_items profile time heap extra stacks) × AreRight 0 profile.snaps
    × (last_time profile.snaps ≤ time)
Stands lines (in_tree profile snap to_come) =
    Begins lines profile.desc (items_of profile ++ snap_items (length profile.snaps) snap) × AreRight 0 profile.snaps
    × (last_time profile.snaps ≤ snap.time) × IsBegun snap to_come
Stands lines (refused_for fault) = Unit {0}

-- a snapshot that is whole
ended : (lines : List (List ℕ)) (profile : Profile) (snap : Snap)
    → Begins lines profile.desc (items_of profile ++ snap_items (length profile.snaps) snap) → AreRight 0 profile.snaps
    → last_time profile.snaps ≤ snap.time → IsTreeOf snap.mark snap.tree
    → Stands lines (at_snapshot (with_snap profile snap))
ended lines profile snap b right later tree = (
  subst (Begins lines profile.desc) (items_of-with_snap profile snap) b,
  AreRight-push 0 profile.snaps snap right (omega (arith, later, last_time-is profile.snaps)) tree,
)

-- ---- one line more, by what was awaited

module _ (lines : List (List ℕ)) (line : List ℕ) where
  -- the lines with this one
  all : List (List ℕ)
  all = lines ++ line ∷ []

  -- in the header, where the line is no description
  step_command : (desc : List ℕ) (o : Option (List ℕ)) → Describe [] lines desc → header_value (codes "cmd:") line ≡ o
      → Stands all (go_on (at_unit desc) (or_fault BadHeader o))
  unfolding all
  step_command desc None h e = tt
  step_command desc (Some cmd) h e =
      record { descriptions = lines; others = line ∷ []; parts = refl; described = h; said = (e, tt) }

  -- in the header
  step_header : (desc : List ℕ) (o : Option (List ℕ)) → Describe [] lines desc → header_value (codes "desc:") line ≡ o
      → Stands all (after_header_line desc line o)
  unfolding all
  step_header desc None h e = step_command desc (header_value (codes "cmd:") line) h refl
  step_header desc (Some value) h e = Describe-push [] lines desc line value h e

  -- at the unit
  step_unit : (desc cmd : List ℕ) (o : Option TimeUnit) → Begins lines desc (command_item cmd ∷ [])
      → unit_in (header_value (codes "time_unit:") line) ≡ o
      → Stands all
      (go_on (λ unit. at_snapshot (record { desc = desc; cmd = cmd; unit = unit; snaps = [] })) (or_fault BadHeader o))
  unfolding all
  step_unit desc cmd None h e = tt
  step_unit desc cmd (Some unit) h e = (Begins-push lines desc (command_item cmd ∷ []) [] line (unit_item unit) h e, tt)

  -- at a snapshot's number, which has to be the count
  step_place : (profile : Profile) (n : ℕ) (t : Bool) → Stands lines (at_snapshot profile)
      → key_number (codes "snapshot=") line ≡ Ok n → eqb n (length profile.snaps) ≡ t
      → Stands all (cond t (at_time profile) (refused_for WrongOrder))
  unfolding all
  step_place profile n false h e q = tt
  step_place profile n true h e q = (
    Begins-push lines profile.desc (items_of profile) [] line
        (number_item (codes "snapshot=") (length profile.snaps))
        (subst (Begins lines profile.desc) (sym (append-nil (items_of profile))) h.0)
        (subst (λ (k : ℕ). key_number (codes "snapshot=") line ≡ Ok k) (eqb-true n (length profile.snaps) q) e),
    h.1,
  )

  -- at a snapshot's number
  step_snapshot : (profile : Profile) (r : Result ℕ ProfileFault) → Stands lines (at_snapshot profile)
      → key_number (codes "snapshot=") line ≡ r
      → Stands all (go_on (λ n. cond (eqb n (length profile.snaps)) (at_time profile) (refused_for WrongOrder)) r)
  step_snapshot profile (Err fault) h e = tt
  step_snapshot profile (Ok n) h e = step_place profile n (eqb n (length profile.snaps)) h e refl

  -- at its time, which may not fall
  step_order : (profile : Profile) (time : ℕ) (t : Bool) → Stands lines (at_time profile)
      → key_number (codes "time=") line ≡ Ok time → ltb time (last_time profile.snaps) ≡ t
      → Stands all (cond t (refused_for WrongOrder) (at_heap profile time))
  unfolding all
  step_order profile time true h e q = tt
  step_order profile time false h e q = (
    Begins-push lines profile.desc (items_of profile) (one_item profile) line (number_item (codes "time=") time) h.0 e,
    h.1,
    ltb-false time (last_time profile.snaps) q,
  )

  -- at its time
  step_time : (profile : Profile) (r : Result ℕ ProfileFault) → Stands lines (at_time profile)
      → key_number (codes "time=") line ≡ r
      → Stands all
      (go_on (λ time. cond (ltb time (last_time profile.snaps)) (refused_for WrongOrder) (at_heap profile time)) r)
  step_time profile (Err fault) h e = tt
  step_time profile (Ok time) h e = step_order profile time (ltb time (last_time profile.snaps)) h e refl

  -- at its heap bytes
  step_heap : (profile : Profile) (time : ℕ) (r : Result ℕ ProfileFault) → Stands lines (at_heap profile time)
      → key_number (codes "mem_heap_B=") line ≡ r → Stands all (go_on (at_extra profile time) r)
  unfolding all
  step_heap profile time (Err fault) h e = tt
  step_heap profile time (Ok heap) h e = (
    Begins-push lines profile.desc (items_of profile) (two_items profile time) line
        (number_item (codes "mem_heap_B=") heap) h.0 e,
    h.1,
    h.2,
  )

  -- at its extra bytes
  step_extra : (profile : Profile) (time heap : ℕ) (r : Result ℕ ProfileFault)
      → Stands lines (at_extra profile time heap) → key_number (codes "mem_heap_extra_B=") line ≡ r
      → Stands all (go_on (at_stacks profile time heap) r)
  unfolding all
  step_extra profile time heap (Err fault) h e = tt
  step_extra profile time heap (Ok extra) h e = (
    Begins-push lines profile.desc (items_of profile) (three_items profile time heap) line
        (number_item (codes "mem_heap_extra_B=") extra) h.0 e,
    h.1,
    h.2,
  )

  -- at its stack bytes
  step_stacks : (profile : Profile) (time heap extra : ℕ) (r : Result ℕ ProfileFault)
      → Stands lines (at_stacks profile time heap extra) → key_number (codes "mem_stacks_B=") line ≡ r
      → Stands all (go_on (at_mark profile time heap extra) r)
  unfolding all
  step_stacks profile time heap extra (Err fault) h e = tt
  step_stacks profile time heap extra (Ok stacks) h e = (
    Begins-push lines profile.desc (items_of profile) (four_items profile time heap extra) line
        (number_item (codes "mem_stacks_B=") stacks) h.0 e,
    h.1,
    h.2,
  )

  -- the snapshot without a tree
  marked : Profile → ℕ → ℕ → ℕ → ℕ → HeapTree → Snap
  marked profile time heap extra stacks mark =
      record { time = time; heap = heap; extra = extra; stacks = stacks; mark = mark; tree = [] }

  -- at a mark with a tree, whose root is to come
  rooted : (profile : Profile) (time heap extra stacks : ℕ) (mark : HeapTree) → HasTree mark
      → Stands lines (at_mark profile time heap extra stacks)
      → mark_in (value_after (codes "heap_tree=") line) ≡ Some mark
      → Stands all (in_tree profile (marked profile time heap extra stacks mark) (1 ∷ []))
  unfolding all marked
  rooted profile time heap extra stacks mark has h e = (
    Begins-push lines profile.desc (items_of profile) (five_items profile time heap extra stacks) line
        (mark_item mark) h.0 e,
    h.1,
    h.2,
    record { marked = has; leads = refl; more = omega arith },
  )

  -- at its mark
  step_mark : (profile : Profile) (time heap extra stacks : ℕ) (o : Option HeapTree)
      → Stands lines (at_mark profile time heap extra stacks) → mark_in (value_after (codes "heap_tree=") line) ≡ o
      → Stands all
      (go_on (λ mark. after_mark profile
      (record { time = time; heap = heap; extra = extra; stacks = stacks; mark = mark; tree = [] }) mark) (or_fault
      BadSnapshot o))
  unfolding all marked
  step_mark profile time heap extra stacks None h e = tt
  step_mark profile time heap extra stacks (Some Empty) h e =
      ended all profile (marked profile time heap extra stacks Empty)
      (Begins-push lines profile.desc (items_of profile) (five_items profile time heap extra stacks) line
      (mark_item Empty) h.0 e)
      h.1 h.2 refl
  step_mark profile time heap extra stacks (Some Detailed) h e = rooted profile time heap extra stacks Detailed tt h e
  step_mark profile time heap extra stacks (Some Peak) h e = rooted profile time heap extra stacks Peak tt h e

  -- the snapshot with one line more in its tree
  grown : (profile : Profile) (snap : Snap) (to_come : List ℕ) (node : TreeLine)
      → Stands lines (in_tree profile snap to_come) → tree_line_of line ≡ Some node
      → Begins all profile.desc (items_of profile ++ snap_items (length profile.snaps) (with_line snap node))
  unfolding all
  grown profile snap to_come node h e =
      subst (λ (nodes : List Item). Begins (lines ++ line ∷ []) profile.desc
      (items_of profile
      ++ (number_item (codes "snapshot=") (length profile.snaps) ∷ number_item (codes "time=") snap.time
      ∷ number_item (codes "mem_heap_B=") snap.heap ∷ number_item (codes "mem_heap_extra_B=") snap.extra
      ∷ number_item (codes "mem_stacks_B=") snap.stacks ∷ mark_item snap.mark ∷ nodes)))
      (sym (map-append node_item snap.tree (node ∷ [])))
      (Begins-push lines profile.desc (items_of profile) (snap_items (length profile.snaps) snap) line (node_item node)
      h.0 e)

  -- in its tree, by what is to come then
  step_levels : (profile : Profile) (snap : Snap) (to_come : List ℕ) (node : TreeLine) (next : List ℕ)
      → Stands lines (in_tree profile snap to_come) → length to_come ≤ 257 → tree_line_of line ≡ Some node
      → after_line node.children to_come ≡ next
      → Stands all (after_levels profile (with_line snap node) next)
  step_levels profile snap to_come node [] h few e q =
      ended all profile (with_line snap node) (grown profile snap to_come node h e) h.1 h.2
      (tree_of snap.mark h.3.marked (snap.tree ++ node ∷ [])
      (tree_leads (snap.tree ++ node ∷ [])
      (subst (Leads (1 ∷ []) (snap.tree ++ node ∷ [])) q
      (Leads-push (1 ∷ []) snap.tree to_come node h.3.leads h.3.more few))))
  step_levels profile snap to_come node (n ∷ outer) h few e q = (
    grown profile snap to_come node h e,
    h.1,
    h.2,
    record {
      marked = h.3.marked;
      leads =
          subst (Leads (1 ∷ []) (snap.tree ++ node ∷ [])) q
          (Leads-push (1 ∷ []) snap.tree to_come node h.3.leads h.3.more few);
      more = omega arith;
    },
  )

  -- in its tree, where it is not too deep
  step_node : (profile : Profile) (snap : Snap) (to_come : List ℕ) (o : Option TreeLine)
      → Stands lines (in_tree profile snap to_come) → length to_come ≤ 257 → tree_line_of line ≡ o
      → Stands all (go_on (after_tree_line profile snap to_come) (or_fault BadTree o))
  step_node profile snap to_come None h few e = tt
  step_node profile snap to_come (Some node) h few e =
      step_levels profile snap to_come node (after_line node.children to_come) h few e refl

  -- in its tree
  step_tree : (profile : Profile) (snap : Snap) (to_come : List ℕ) (t : Bool)
      → Stands lines (in_tree profile snap to_come) → ltb 257 (length to_come) ≡ t
      → Stands all
      (cond t (refused_for BadTree) (go_on (after_tree_line profile snap to_come)
      (or_fault BadTree (tree_line_of line))))
  step_tree profile snap to_come true h q = tt
  step_tree profile snap to_come false h q =
      step_node profile snap to_come (tree_line_of line) h (ltb-false 257 (length to_come) q) refl

  -- wherever the lines are
  step : (p : Progress) → Stands lines p → Stands (lines ++ line ∷ []) (taken p line)
  unfolding taken all
  step (in_descriptions desc) h = step_header desc (header_value (codes "desc:") line) h refl
  step (at_unit desc cmd) h = step_unit desc cmd (unit_in (header_value (codes "time_unit:") line)) h refl
  step (at_snapshot profile) h = step_snapshot profile (key_number (codes "snapshot=") line) h refl
  step (at_time profile) h = step_time profile (key_number (codes "time=") line) h refl
  step (at_heap profile time) h = step_heap profile time (key_number (codes "mem_heap_B=") line) h refl
  step (at_extra profile time heap) h =
      step_extra profile time heap (key_number (codes "mem_heap_extra_B=") line) h refl
  step (at_stacks profile time heap extra) h =
      step_stacks profile time heap extra (key_number (codes "mem_stacks_B=") line) h refl
  step (at_mark profile time heap extra stacks) h =
      step_mark profile time heap extra stacks (mark_in (value_after (codes "heap_tree=") line)) h refl
  step (in_tree profile snap to_come) h = step_tree profile snap to_come (ltb 257 (length to_come)) h refl
  step (refused_for fault) h = tt

-- ---- all lines that are not skipped

-- after lines that are not skipped
abbrev pub take_all : Progress → List (List ℕ) → Progress
take_all p [] = p
take_all p (line ∷ lines) = take_all (taken p line) lines

-- after all lines
pub stands_after : (front lines : List (List ℕ)) (p : Progress) → Stands front p
    → Stands (front ++ lines) (take_all p lines)
stands_after front [] p h = subst (λ (ls : List (List ℕ)). Stands ls p) (sym (append-nil front)) h
stands_after front (line ∷ lines) p h =
    subst (λ (ls : List (List ℕ)). Stands ls (take_all (taken p line) lines)) (append_assoc front (line ∷ []) lines)
    (stands_after (front ++ line ∷ []) lines (taken p line) (step front line p h))

-- what is read of the lines
pub record Reads (lines : List (List ℕ)) (profile : Profile) : Type 0 where
  pub descriptions : List (List ℕ)
  pub others : List (List ℕ)
  pub parts : lines ≡ descriptions ++ others
  pub described : Describe [] descriptions profile.desc
  pub said : Say others (items_of profile)
  pub right : AreRight 0 profile.snaps

-- where a profile comes out, the lines say it
pub reads : (lines : List (List ℕ)) (profile : Profile) → take_all (in_descriptions []) lines ≡ at_snapshot profile
    → Reads lines profile
reads lines profile e =
    let s : Stands lines (at_snapshot profile) =
    subst (Stands lines) e (stands_after [] lines (in_descriptions []) refl) in
    record {
      descriptions = s.0.descriptions;
      others = s.0.others;
      parts = s.0.parts;
      described = s.0.described;
      said = s.0.said;
      right = s.1;
    }
