-- The lines of a profile are taken, one after another, and the profile is what they say.
use Rattle.std.proofs.Common.{◌≡◌, ℕ, suc, ◌<◌, ◌≤◌, Bool, true, false, cond, eqb, ltb, List, [], ◌∷◌, ◌++◌, length}
use Rattle.std.proofs.Common.{map, Option, Some, None, Ok, refl, sym, ap, subst, ◌∙◌, append_assoc, arith, eq-eqb}
use Rattle.std.specs.Prelude.{codes, not}
use Rattle.std.proofs.lemmas.Bool.{le-ltb, eqb-true}
use Rattle.std.specs.Option.{option_map}
use Rattle.std.proofs.lemmas.List.{append-nil, length-append}
use Rattle.massif_file.specs.declared.fault.ProfileFault.TheVariants.{BadHeader, BadSnapshot, WrongOrder, BadTree}
use Rattle.massif_file.specs.declared.profile.TimeUnit.{TimeUnit}
use Rattle.massif_file.specs.declared.profile.HeapTree.{HeapTree}
use Rattle.massif_file.specs.declared.profile.HeapTree.TheVariants.{Empty, Detailed, Peak}
use Rattle.massif_file.specs.TreeLine.{TreeLine}
use Rattle.massif_file.specs.declared.profile.Snap.{Snap}
use Rattle.massif_file.specs.declared.profile.Profile.{Profile}
use Rattle.massif_file.specs.Blanks.{without_blanks, is_skipped}
use Rattle.massif_file.specs.Fields.{value_after, header_value, key_number, or_fault, unit_in, mark_in}
use Rattle.massif_file.specs.IsProfile.{saying}
use Rattle.massif_file.specs.Items.{Item, node_item, Say, snap_items, snaps_items, items_of}
use Rattle.massif_file.specs.Levels.{after_line}
use Rattle.massif_file.specs.TreeLineOf.{tree_line_of}
use Rattle.massif_file.specs.Progress.{Progress, in_descriptions, at_unit, at_snapshot, at_time, at_heap, at_extra}
use Rattle.massif_file.specs.Progress.{at_stacks, at_mark, in_tree, refused_for, go_on, with_snap, with_line}
use Rattle.massif_file.specs.Progress.{after_header_line, after_mark, after_levels, after_tree_line, taken, after_all}
use Rattle.massif_file.specs.Descriptions.{joined, Describe}
use Rattle.massif_file.specs.LastTime.{last_time}
use Rattle.massif_file.specs.IsRight.{IsTreeOf, AreRight}
use Rattle.massif_file.specs.Leads.{Leads}
use Rattle.massif_file.proofs.TreeLemmas.{leads_tree}
use Rattle.massif_file.proofs.Sound.{take_all, time_from, last_time-is}

-- ---- skipped lines make no difference

-- skipped lines leave everything as it is
pub after_all-saying : (p : Progress) (lines : List (List ℕ)) → after_all p lines ≡ take_all p (saying lines)
after_all-saying p [] = refl
after_all-saying p (line ∷ lines) = by (is_skipped line) (λ q. after_all-saying q lines)
  where
    by : (t : Bool) → ((q : Progress) → after_all q lines ≡ take_all q (saying lines))
        → after_all (cond t p (taken p line)) lines ≡ take_all p (cond (not t) (line ∷ saying lines) (saying lines))
    by true rest = rest p
    by false rest = rest (taken p line)

-- lines after lines
pub take_all-append : (p : Progress) (xs ys : List (List ℕ)) → take_all p (xs ++ ys) ≡ take_all (take_all p xs) ys
take_all-append p [] ys = refl
take_all-append p (x ∷ xs) ys = take_all-append (taken p x) xs ys

-- ---- the header

-- a line of the command is no description
no_description : (line : List ℕ) (cmd : List ℕ) → header_value (codes "cmd:") line ≡ Some cmd
    → header_value (codes "desc:") line ≡ None
no_description [] cmd e = absurd cc
no_description (b ∷ bs) cmd e = by (eqb b 99) refl
  where
    -- the first byte is that of `cmd:`, and not that of `desc:`
    by : (t : Bool) → eqb b 99 ≡ t → header_value (codes "desc:") (b ∷ bs) ≡ None
    by true q = ap (λ (k : ℕ). header_value (codes "desc:") (k ∷ bs)) (eqb-true b 99 q)
    by false q =
        absurd (let f : None
        ≡ Some cmd =
        ap (λ (t : Bool). option_map without_blanks (cond t (value_after (codes "md:") bs) None)) (sym q) ∙ e in cc)

-- descriptions are joined
pub run_descriptions : (before : List ℕ) (lines : List (List ℕ)) (desc : List ℕ) → Describe before lines desc
    → take_all (in_descriptions before) lines ≡ in_descriptions desc
unfolding taken
run_descriptions before [] desc h = ap in_descriptions h
run_descriptions before (line ∷ lines) desc h =
    ap (λ (o : Option (List ℕ)). take_all (after_header_line before line o) lines) h.1
    ∙ run_descriptions (joined before h.0) lines desc h.2

-- the command ends the descriptions
pub run_command : (desc cmd : List ℕ) (line : List ℕ) → header_value (codes "cmd:") line ≡ Some cmd
    → taken (in_descriptions desc) line ≡ at_unit desc cmd
unfolding taken
run_command desc cmd line e =
    ap (after_header_line desc line) (no_description line cmd e)
    ∙ ap (λ (o : Option (List ℕ)). go_on (at_unit desc) (or_fault BadHeader o)) e

-- the unit ends the header
run_unit : (desc cmd : List ℕ) (unit : TimeUnit) (line : List ℕ)
    → unit_in (header_value (codes "time_unit:") line) ≡ Some unit
    → taken (at_unit desc cmd) line ≡ at_snapshot (record { desc = desc; cmd = cmd; unit = unit; snaps = [] })
unfolding taken
run_unit desc cmd unit line e =
    ap (λ (o : Option TimeUnit). go_on (λ u. at_snapshot (record { desc = desc; cmd = cmd; unit = u; snaps = [] }))
    (or_fault BadHeader o)) e

-- ---- the six lines of a snapshot

-- the number of the snapshot
pub run_place : (profile : Profile) (line : List ℕ) → key_number (codes "snapshot=") line ≡ Ok (length profile.snaps)
    → taken (at_snapshot profile) line ≡ at_time profile
unfolding taken
run_place profile line e =
    ap (go_on (λ n. cond (eqb n (length profile.snaps)) (at_time profile) (refused_for WrongOrder))) e
    ∙ ap (λ (t : Bool). cond t (at_time profile) (refused_for WrongOrder))
    (eq-eqb (length profile.snaps) (length profile.snaps) refl)

-- its time
pub run_time : (profile : Profile) (time : ℕ) (line : List ℕ) → last_time profile.snaps ≤ time
    → key_number (codes "time=") line ≡ Ok time → taken (at_time profile) line ≡ at_heap profile time
unfolding taken
run_time profile time line later e =
    ap (go_on (λ t. cond (ltb t (last_time profile.snaps)) (refused_for WrongOrder) (at_heap profile t))) e
    ∙ ap (λ (t : Bool). cond t (refused_for WrongOrder) (at_heap profile time))
    (le-ltb time (last_time profile.snaps) later)

-- its heap bytes
pub run_heap : (profile : Profile) (time heap : ℕ) (line : List ℕ) → key_number (codes "mem_heap_B=") line ≡ Ok heap
    → taken (at_heap profile time) line ≡ at_extra profile time heap
unfolding taken
run_heap profile time heap line e = ap (go_on (at_extra profile time)) e

-- its extra bytes
pub run_extra : (profile : Profile) (time heap extra : ℕ) (line : List ℕ)
    → key_number (codes "mem_heap_extra_B=") line ≡ Ok extra
    → taken (at_extra profile time heap) line ≡ at_stacks profile time heap extra
unfolding taken
run_extra profile time heap extra line e = ap (go_on (at_stacks profile time heap)) e

-- its stack bytes
pub run_stacks : (profile : Profile) (time heap extra stacks : ℕ) (line : List ℕ)
    → key_number (codes "mem_stacks_B=") line ≡ Ok stacks
    → taken (at_stacks profile time heap extra) line ≡ at_mark profile time heap extra stacks
unfolding taken
run_stacks profile time heap extra stacks line e = ap (go_on (at_mark profile time heap extra)) e

-- its mark
pub run_mark : (profile : Profile) (time heap extra stacks : ℕ) (mark : HeapTree) (line : List ℕ)
    → mark_in (value_after (codes "heap_tree=") line) ≡ Some mark
    → taken (at_mark profile time heap extra stacks) line
    ≡ after_mark profile (record { time = time; heap = heap; extra = extra; stacks = stacks; mark = mark; tree = [] })
    mark
unfolding taken
run_mark profile time heap extra stacks mark line e =
    ap (λ (o : Option HeapTree). go_on
    (λ m. after_mark profile
    (record { time = time; heap = heap; extra = extra; stacks = stacks; mark = m; tree = [] }) m)
    (or_fault BadSnapshot o)) e

-- ---- a tree

-- one line of a tree
pub run_node : (profile : Profile) (snap : Snap) (to_come : List ℕ) (node : TreeLine) (line : List ℕ)
    → length to_come ≤ 257 → tree_line_of line ≡ Some node
    → taken (in_tree profile snap to_come) line ≡ after_tree_line profile snap to_come node
unfolding taken
run_node profile snap to_come node line few e =
    ap (λ (t : Bool). cond t (refused_for BadTree)
    (go_on (after_tree_line profile snap to_come) (or_fault BadTree (tree_line_of line)))) (le-ltb
    257 (length to_come) few)
    ∙ ap (λ (o : Option TreeLine). go_on (after_tree_line profile snap to_come) (or_fault BadTree o)) e

-- the snapshot with these lines at the end of its tree
abbrev pub with_lines : Snap → List TreeLine → Snap
with_lines snap nodes = record snap { tree = snap.tree ++ nodes }

-- a line, and then the others
pub mutual_lines : (snap : Snap) (node : TreeLine) (nodes : List TreeLine)
    → with_lines (with_line snap node) nodes ≡ with_lines snap (node ∷ nodes)
mutual_lines snap node nodes =
    ap (λ (tree : List TreeLine). record snap { tree = tree }) (append_assoc snap.tree (node ∷ []) nodes)

-- no line is left where none is to come
no_more : (nodes : List TreeLine) (lines : List (List ℕ)) → Say lines (map node_item nodes) → Leads [] nodes []
    → (nodes ≡ []) × (lines ≡ [])
no_more [] [] s h = (refl, refl)
no_more [] (l ∷ ls) s h = absurd s
no_more (n ∷ ns) lines s h = absurd (omega (arith, h.0))

-- all lines of a tree, from one that is awaited on
run_tree : (profile : Profile) (snap : Snap) (to_come : List ℕ) (nodes : List TreeLine) (lines : List (List ℕ))
    → Say lines (map node_item nodes) → Leads to_come nodes [] → 0 < length to_come
    → take_all (in_tree profile snap to_come) lines ≡ at_snapshot (with_snap profile (with_lines snap nodes))
run_tree profile snap to_come [] lines s h some = absurd (omega (arith, ap length h))
run_tree profile snap to_come (node ∷ nodes) [] s h some = absurd s
run_tree profile snap to_come (node ∷ nodes) (line ∷ lines) s h some =
    ap (λ (p : Progress). take_all p lines) (run_node profile snap to_come node line h.1 s.0)
    ∙ by (after_line node.children to_come) h.2 (λ sn tc k q. run_tree profile sn tc nodes lines s.1 k q)
  where
    by : (next : List ℕ) → Leads next nodes []
        → ((sn : Snap) (tc : List ℕ) → Leads tc nodes [] → 0 < length tc
        → take_all (in_tree profile sn tc) lines ≡ at_snapshot (with_snap profile (with_lines sn nodes)))
        → take_all (after_levels profile (with_line snap node) next) lines
        ≡ at_snapshot (with_snap profile (with_lines snap (node ∷ nodes)))
    by [] k rest =
        let e = no_more nodes lines s.1 k in
        ap (λ (ls : List (List ℕ)). take_all (at_snapshot (with_snap profile (with_line snap node))) ls) e.1
        ∙ ap (λ (ns : List TreeLine). at_snapshot (with_snap profile (with_lines snap (node ∷ ns)))) (sym e.0)
    by (n ∷ outer) k rest =
        rest (with_line snap node) (n ∷ outer) k (omega arith)
        ∙ ap (λ (sn : Snap). at_snapshot (with_snap profile sn)) (mutual_lines snap node nodes)

-- ---- the snapshots

-- lines that say two lists of items are two lists of lines
pub Say-split : (lines : List (List ℕ)) (front back : List Item) → Say lines (front ++ back)
    → (xs : List (List ℕ)) × (ys : List (List ℕ)) × (lines ≡ xs ++ ys) × Say xs front × Say ys back
Say-split lines [] back s = ([], lines, refl, tt, s)
Say-split [] (a ∷ front) back s = absurd s
Say-split (line ∷ lines) (a ∷ front) back s =
    let r = Say-split lines front back s.1 in
    (line ∷ r.0, r.1, ap (λ (ls : List (List ℕ)). line ∷ ls) r.2, (s.0, r.3), r.4)

-- the profile with these snapshots at its end
abbrev with_snaps : Profile → List Snap → Profile
with_snaps profile snaps = record profile { snaps = profile.snaps ++ snaps }

-- a snapshot, and then the others
with_snaps-cons : (profile : Profile) (snap : Snap) (snaps : List Snap)
    → with_snaps (with_snap profile snap) snaps ≡ with_snaps profile (snap ∷ snaps)
with_snaps-cons profile snap snaps =
    ap (λ (ss : List Snap). record profile { snaps = ss }) (append_assoc profile.snaps (snap ∷ []) snaps)

-- the last time is that of the last snapshot
time_from-push : (time : ℕ) (snaps : List Snap) (snap : Snap) → time_from time (snaps ++ snap ∷ []) ≡ snap.time
time_from-push time [] snap = refl
time_from-push time (s ∷ ss) snap = time_from-push s.time ss snap

-- the same of `last_time`
last_time-push : (snaps : List Snap) (snap : Snap) → last_time (snaps ++ snap ∷ []) ≡ snap.time
last_time-push snaps snap = last_time-is (snaps ++ snap ∷ []) ∙ time_from-push 0 snaps snap

-- the snapshot before its tree
abbrev pub started : Snap → Snap
started snap = record snap { tree = [] }

-- from the mark to the snapshot's end
run_marked : (profile : Profile) (snap : Snap) (mark : HeapTree) (lines : List (List ℕ))
    → Say lines (map node_item snap.tree) → IsTreeOf mark snap.tree
    → take_all (after_mark profile (started snap) mark) lines ≡ at_snapshot (with_snap profile snap)
run_marked profile snap Detailed lines s h =
    run_tree profile (started snap) (1 ∷ []) snap.tree lines s (leads_tree snap.tree h) (omega arith)
run_marked profile snap Peak lines s h =
    run_tree profile (started snap) (1 ∷ []) snap.tree lines s (leads_tree snap.tree h) (omega arith)
run_marked profile snap Empty lines s h =
    let none : Say lines [] = subst (λ (nodes : List TreeLine). Say lines (map node_item nodes)) h s in
    ap (λ (ls : List (List ℕ)). take_all (at_snapshot (with_snap profile (started snap))) ls) (nothing lines none)
    ∙ ap (λ (tree : List TreeLine). at_snapshot (with_snap profile (record snap { tree = tree }))) (sym h)
  where
    nothing : (ls : List (List ℕ)) → Say ls [] → ls ≡ []
    nothing [] t = refl
    nothing (l ∷ ls) t = absurd t

-- all lines of a snapshot
run_snap : (profile : Profile) (snap : Snap) (lines : List (List ℕ))
    → Say lines (snap_items (length profile.snaps) snap) → last_time profile.snaps ≤ snap.time
    → IsTreeOf snap.mark snap.tree → take_all (at_snapshot profile) lines ≡ at_snapshot (with_snap profile snap)
run_snap profile snap [] s later tree = absurd s
run_snap profile snap (a ∷ []) s later tree = absurd s.1
run_snap profile snap (a ∷ b ∷ []) s later tree = absurd s.1.1
run_snap profile snap (a ∷ b ∷ c ∷ []) s later tree = absurd s.1.1.1
run_snap profile snap (a ∷ b ∷ c ∷ d ∷ []) s later tree = absurd s.1.1.1.1
run_snap profile snap (a ∷ b ∷ c ∷ d ∷ e ∷ []) s later tree = absurd s.1.1.1.1.1
run_snap profile snap (a ∷ b ∷ c ∷ d ∷ e ∷ f ∷ lines) s later tree =
    let p1 = run_place profile a s.0 in
    let p2 = ap (λ (p : Progress). taken p b) p1 ∙ run_time profile snap.time b later s.1.0 in
    let p3 = ap (λ (p : Progress). taken p c) p2 ∙ run_heap profile snap.time snap.heap c s.1.1.0 in
    let p4 = ap (λ (p : Progress). taken p d) p3 ∙ run_extra profile snap.time snap.heap snap.extra d s.1.1.1.0 in
    let p5 =
    ap (λ (p : Progress). taken p e) p4
    ∙ run_stacks profile snap.time snap.heap snap.extra snap.stacks e s.1.1.1.1.0 in
    let p6 =
    ap (λ (p : Progress). taken p f) p5
    ∙ run_mark profile snap.time snap.heap snap.extra snap.stacks snap.mark f s.1.1.1.1.1.0 in
    ap (λ (p : Progress). take_all p lines) p6 ∙ run_marked profile snap snap.mark lines s.1.1.1.1.1.1 tree

-- all snapshots that follow
run_snaps : (profile : Profile) (snaps : List Snap) (lines : List (List ℕ))
    → Say lines (snaps_items (length profile.snaps) snaps) → AreRight (last_time profile.snaps) snaps
    → take_all (at_snapshot profile) lines ≡ at_snapshot (with_snaps profile snaps)
run_snaps profile [] [] s right =
    ap (λ (ss : List Snap). at_snapshot (record profile { snaps = ss })) (sym (append-nil profile.snaps))
run_snaps profile [] (line ∷ lines) s right = absurd s
run_snaps profile (snap ∷ snaps) lines s right =
    let parts =
    Say-split lines (snap_items (length profile.snaps) snap) (snaps_items (suc (length profile.snaps)) snaps) s in
    let count : suc (length profile.snaps) ≡ length (with_snap profile snap).snaps =
    omega (arith, length-append profile.snaps (snap ∷ [])) in
    let later = subst (λ (n : ℕ). Say parts.1 (snaps_items n snaps)) count parts.4 in
    let right_later = subst (λ (t : ℕ). AreRight t snaps) (sym (last_time-push profile.snaps snap)) right.2 in
    ap (take_all (at_snapshot profile)) parts.2
    ∙ take_all-append (at_snapshot profile) parts.0 parts.1
    ∙ ap (λ (p : Progress). take_all p parts.1) (run_snap profile snap parts.0 parts.3 right.0 right.1)
    ∙ run_snaps (with_snap profile snap) snaps parts.1 later right_later
    ∙ ap at_snapshot (with_snaps-cons profile snap snaps)

-- ---- all lines

-- all lines after the descriptions
pub run_items : (desc : List ℕ) (profile : Profile) (lines : List (List ℕ)) → desc ≡ profile.desc
    → Say lines (items_of profile) → AreRight 0 profile.snaps
    → take_all (in_descriptions desc) lines ≡ at_snapshot profile
run_items desc profile [] d s right = absurd s
run_items desc profile (a ∷ []) d s right = absurd s.1
run_items desc profile (a ∷ b ∷ lines) d s right =
    let first : Profile = record { desc = desc; cmd = profile.cmd; unit = profile.unit; snaps = [] } in
    let p1 = run_command desc profile.cmd a s.0 in
    let p2 = ap (λ (p : Progress). taken p b) p1 ∙ run_unit desc profile.cmd profile.unit b s.1.0 in
    ap (λ (p : Progress). take_all p lines) p2
    ∙ run_snaps first profile.snaps lines s.1.1 right
    ∙ ap (λ (text : List ℕ). at_snapshot (record profile { desc = text })) d

-- all lines of a profile
pub run_all : (lines descriptions others : List (List ℕ)) (profile : Profile) → saying lines ≡ descriptions ++ others
    → Describe [] descriptions profile.desc → Say others (items_of profile) → AreRight 0 profile.snaps
    → after_all (in_descriptions []) lines ≡ at_snapshot profile
run_all lines descriptions others profile parts described said right =
    after_all-saying (in_descriptions []) lines
    ∙ ap (take_all (in_descriptions [])) parts
    ∙ take_all-append (in_descriptions []) descriptions others
    ∙ ap (λ (p : Progress). take_all p others) (run_descriptions [] descriptions profile.desc described)
    ∙ run_items profile.desc profile others refl said right
