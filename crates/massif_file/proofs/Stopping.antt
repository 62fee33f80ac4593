-- A line that can't follow the lines before it is refused by the reader, for that fault.
use Rattle.std.proofs.Common.{◌≡◌, ℕ, ◌<◌, ◌≤◌, zero, suc, Bool, true, false, cond, eqb, ltb, List, [], ◌∷◌, ◌++◌}
use Rattle.std.proofs.Common.{length, map, Option, Some, None, Result, Ok, Err, refl, sym, ap, subst, ◌∙◌, arith, inl}
use Rattle.std.proofs.Common.{inr, lt-ltb}
use Rattle.std.specs.Prelude.{◌⊎◌, codes, slice_get}
use Rattle.std.proofs.lemmas.Bool.{eqb-true, cases_Bool}
use Rattle.std.specs.Option.{option_map}
use Rattle.std.proofs.lemmas.List.{append-nil}
use Rattle.std.proofs.lemmas.Option.{same_Some}
use Rattle.massif_file.specs.declared.fault.ProfileFault.{ProfileFault}
use Rattle.massif_file.specs.declared.fault.ProfileFault.TheVariants.{BadHeader, BadSnapshot, BadNumber, WrongOrder}
use Rattle.massif_file.specs.declared.fault.ProfileFault.TheVariants.{BadTree, Truncated, NoMemory}
use Rattle.massif_file.specs.declared.profile.TimeUnit.{TimeUnit}
use Rattle.massif_file.specs.declared.profile.HeapTree.{HeapTree}
use Rattle.massif_file.specs.declared.profile.HeapTree.TheVariants.{Empty, Detailed, Peak}
use Rattle.massif_file.specs.TreeLine.{TreeLine}
use Rattle.massif_file.specs.declared.profile.Snap.{Snap}
use Rattle.massif_file.specs.declared.profile.Profile.{Profile}
use Rattle.massif_file.specs.Begins.{Begins, InSnapshot, InTree, HasTree}
use Rattle.massif_file.specs.Blanks.{without_blanks}
use Rattle.massif_file.specs.Fields.{value_after, header_value, number_in, key_number, or_fault, unit_in, mark_in}
use Rattle.massif_file.specs.IsRight.{AreRight}
use Rattle.massif_file.specs.Items.{Item, command_item, mark_item, node_item, Says, Say, items_of, snap_items}
use Rattle.massif_file.specs.Leads.{Leads}
use Rattle.massif_file.specs.Levels.{after_line}
use Rattle.massif_file.specs.Progress.{Progress, in_descriptions, at_unit, at_snapshot, at_time, at_heap, at_extra}
use Rattle.massif_file.specs.Progress.{at_stacks, at_mark, in_tree, refused_for, go_on, with_line, after_header_line}
use Rattle.massif_file.specs.Progress.{after_mark, after_levels, after_tree_line, taken, fault_in, end_of}
use Rattle.massif_file.specs.LastTime.{last_time}
use Rattle.massif_file.specs.Descriptions.{Describe}
use Rattle.massif_file.specs.Refuses.{number_keys, AwaitsNumber, AwaitsMark, IsBadHeader, IsBadSnapshot, IsBadNumber}
use Rattle.massif_file.specs.Refuses.{IsWrongOrder, IsBadTree, Refuses, EndsEarly}
use Rattle.massif_file.specs.Refuses as early
use Rattle.massif_file.specs.TreeLineOf.{tree_line_of}
use Rattle.massif_file.proofs.Complete.{take_all-append, run_descriptions, run_command, run_place, run_time, run_heap}
use Rattle.massif_file.proofs.Complete.{run_extra, run_stacks, run_mark, run_node, run_items, Say-split, with_lines}
use Rattle.massif_file.proofs.Complete.{mutual_lines, started}
use Rattle.massif_file.proofs.Sound.{take_all, one_item, two_items, three_items, four_items, five_items}

-- ---- where the lines lead

-- one line more
grow : (p q r : Progress) (front : List Item) (item : Item) (lines : List (List ℕ)) → Say lines (front ++ item ∷ [])
    → ((xs : List (List ℕ)) → Say xs front → take_all p xs ≡ q) → ((line : List ℕ) → Says line item → taken q line ≡ r)
    → take_all p lines ≡ r
grow p q r front item lines s before step =
    let parts = Say-split lines front (item ∷ []) s in
    ap (take_all p) parts.2 ∙ take_all-append p parts.0 parts.1
    ∙ ap (λ (x : Progress). take_all x parts.1) (before parts.0 parts.3) ∙ last parts.1 parts.4
  where
    last : (ys : List (List ℕ)) → Say ys (item ∷ []) → take_all q ys ≡ r
    last [] t = absurd t
    last (y ∷ []) t = step y t.0
    last (y ∷ z ∷ ys) t = absurd t.1

-- no line
none_left : (p : Progress) (lines : List (List ℕ)) → Say lines [] → take_all p lines ≡ p
none_left p [] s = refl
none_left p (l ∷ ls) s = absurd s

module _ (profile : Profile) where
  start : Progress
  start = at_snapshot profile

  after_one : (lines : List (List ℕ)) → Say lines (one_item profile)
      → take_all (at_snapshot profile) lines ≡ at_time profile
  after_one lines s =
      grow (at_snapshot profile) (at_snapshot profile) (at_time profile) [] _ lines s (none_left (at_snapshot profile))
      (run_place profile)

  after_two : (time : ℕ) → last_time profile.snaps ≤ time → (lines : List (List ℕ)) → Say lines (two_items profile time)
      → take_all (at_snapshot profile) lines ≡ at_heap profile time
  after_two time later lines s =
      grow (at_snapshot profile) (at_time profile) (at_heap profile time) (one_item profile) _ lines s after_one
      (λ line. run_time profile time line later)

  after_three : (time heap : ℕ) → last_time profile.snaps ≤ time → (lines : List (List ℕ))
      → Say lines (three_items profile time heap) → take_all (at_snapshot profile) lines ≡ at_extra profile time heap
  after_three time heap later lines s =
      grow (at_snapshot profile) (at_heap profile time) (at_extra profile time heap) (two_items profile time) _ lines s
      (after_two time later) (run_heap profile time heap)

  after_four : (time heap extra : ℕ) → last_time profile.snaps ≤ time → (lines : List (List ℕ))
      → Say lines (four_items profile time heap extra)
      → take_all (at_snapshot profile) lines ≡ at_stacks profile time heap extra
  after_four time heap extra later lines s =
      grow (at_snapshot profile) (at_extra profile time heap) (at_stacks profile time heap extra)
      (three_items profile time heap) _ lines s (after_three time heap later) (run_extra profile time heap extra)

  after_five : (time heap extra stacks : ℕ) → last_time profile.snaps ≤ time → (lines : List (List ℕ))
      → Say lines (five_items profile time heap extra stacks)
      → take_all (at_snapshot profile) lines ≡ at_mark profile time heap extra stacks
  after_five time heap extra stacks later lines s =
      grow (at_snapshot profile) (at_stacks profile time heap extra) (at_mark profile time heap extra stacks)
      (four_items profile time heap extra) _ lines s (after_four time heap extra later)
      (run_stacks profile time heap extra stacks)

  -- a mark with a tree
  begun_tree : (snap : Snap) (mark : HeapTree) → HasTree mark
      → after_mark profile (started snap) mark ≡ in_tree profile (started snap) (1 ∷ [])
  begun_tree snap Empty has = absurd has
  begun_tree snap Detailed has = refl
  begun_tree snap Peak has = refl

  -- no line of a tree is left where none is to come
  no_more : (nodes : List TreeLine) (to_come : List ℕ) → 0 < length to_come → Leads [] nodes to_come → ⊥
  no_more [] to_come more h = omega (arith, ap length h)
  no_more (node ∷ nodes) to_come more h = omega (arith, h.0)

  -- some lines of a tree
  tree_lines : (snap : Snap) (before : List ℕ) (nodes : List TreeLine) (to_come : List ℕ) (lines : List (List ℕ))
      → Say lines (map node_item nodes) → Leads before nodes to_come → 0 < length to_come
      → take_all (in_tree profile snap before) lines ≡ in_tree profile (with_lines snap nodes) to_come
  tree_lines snap before [] to_come [] s h more =
      ap (in_tree profile snap) h
      ∙ ap (λ (tree : List TreeLine). in_tree profile (record snap { tree = tree }) to_come)
      (sym (append-nil snap.tree))
  tree_lines snap before [] to_come (line ∷ lines) s h more = absurd s
  tree_lines snap before (node ∷ nodes) to_come [] s h more = absurd s
  tree_lines snap before (node ∷ nodes) to_come (line ∷ lines) s h more =
      ap (λ (p : Progress). take_all p lines) (run_node profile snap before node line h.1 s.0)
      ∙ by (after_line node.children before) h.2 (λ sn tc k. tree_lines sn tc nodes to_come lines s.1 k more)
    where
      by : (next : List ℕ) → Leads next nodes to_come
          → ((sn : Snap) (tc : List ℕ) → Leads tc nodes to_come
          → take_all (in_tree profile sn tc) lines ≡ in_tree profile (with_lines sn nodes) to_come)
          → take_all (after_levels profile (with_line snap node) next) lines
          ≡ in_tree profile (with_lines snap (node ∷ nodes)) to_come
      by [] k rest = absurd (no_more nodes to_come more k)
      by (n ∷ outer) k rest =
          rest (with_line snap node) (n ∷ outer) k
          ∙ ap (λ (sn : Snap). in_tree profile sn to_come) (mutual_lines snap node nodes)

  -- a snapshot up to some line of its tree
  after_tree : (snap : Snap) (to_come : List ℕ) → last_time profile.snaps ≤ snap.time → HasTree snap.mark
      → Leads (1 ∷ []) snap.tree to_come → 0 < length to_come
      → (lines : List (List ℕ)) → Say lines (snap_items (length profile.snaps) snap)
      → take_all (at_snapshot profile) lines ≡ in_tree profile snap to_come
  after_tree snap to_come later has leads more lines s =
      let parts =
      Say-split lines (five_items profile snap.time snap.heap snap.extra snap.stacks)
      (mark_item snap.mark ∷ map node_item snap.tree) s in
      ap (take_all (at_snapshot profile)) parts.2
      ∙ take_all-append (at_snapshot profile) parts.0 parts.1
      ∙ ap (λ (p : Progress). take_all p parts.1)
      (after_five snap.time snap.heap snap.extra snap.stacks later parts.0 parts.3)
      ∙ rest parts.1 parts.4
    where
      rest : (ys : List (List ℕ)) → Say ys (mark_item snap.mark ∷ map node_item snap.tree)
          → take_all (at_mark profile snap.time snap.heap snap.extra snap.stacks) ys ≡ in_tree profile snap to_come
      rest [] t = absurd t
      rest (y ∷ ys) t =
          ap (λ (p : Progress). take_all p ys)
          (run_mark profile snap.time snap.heap snap.extra snap.stacks snap.mark y t.0
          ∙ begun_tree snap snap.mark has)
          ∙ tree_lines (started snap) (1 ∷ []) snap.tree to_come ys t.1 leads more

  -- lines that begin so: what is left after the whole snapshots
  after_whole : (front : List (List ℕ)) (part : List Item) → Begins front profile.desc (items_of profile ++ part)
      → AreRight 0 profile.snaps
      → (ys : List (List ℕ)) × Say ys part × (take_all (in_descriptions []) front ≡ take_all (at_snapshot profile) ys)
  after_whole front part b right =
      let parts = Say-split b.others (items_of profile) part b.said in (
        parts.1,
        parts.4,
        ap (take_all (in_descriptions [])) b.parts
            ∙ take_all-append (in_descriptions []) b.descriptions b.others
            ∙ ap (λ (p : Progress). take_all p b.others) (run_descriptions [] b.descriptions profile.desc b.described)
            ∙ ap (take_all (in_descriptions profile.desc)) parts.2
            ∙ take_all-append (in_descriptions profile.desc) parts.0 parts.1
            ∙ ap (λ (p : Progress). take_all p parts.1) (run_items profile.desc profile parts.0 refl parts.3 right),
      )

-- ---- the lines before a line that can't follow

-- they are taken, and lead there
pub record LeadsTo (front : List (List ℕ)) (p : Progress) : Type 0 where
  pub runs : take_all (in_descriptions []) front ≡ p
  pub taken_so_far : fault_in p ≡ None

lead : (profile : Profile) (front : List (List ℕ)) (part : List Item) (p : Progress)
    → Begins front profile.desc (items_of profile ++ part) → AreRight 0 profile.snaps → fault_in p ≡ None
    → ((ys : List (List ℕ)) → Say ys part → take_all (at_snapshot profile) ys ≡ p) → LeadsTo front p
lead profile front part p b right t run =
    let rest = after_whole profile front part b right in
    record { runs = rest.2 ∙ run rest.0 rest.1; taken_so_far = t }

lead_unit : (front : List (List ℕ)) (desc cmd : List ℕ) → Begins front desc (command_item cmd ∷ [])
    → LeadsTo front (at_unit desc cmd)
lead_unit front desc cmd b = record {
  runs = ap (take_all (in_descriptions [])) b.parts
      ∙ take_all-append (in_descriptions []) b.descriptions b.others
      ∙ ap (λ (p : Progress). take_all p b.others) (run_descriptions [] b.descriptions desc b.described)
      ∙ last b.others b.said;
  taken_so_far = refl;
}
  where
    last : (ys : List (List ℕ)) → Say ys (command_item cmd ∷ []) → take_all (in_descriptions desc) ys ≡ at_unit desc cmd
    last [] t = absurd t
    last (y ∷ []) t = run_command desc cmd y t.0
    last (y ∷ z ∷ ys) t = absurd t.1

-- in a snapshot
abbrev stage_of : Profile → Snap → ℕ → Progress
stage_of profile snap zero = at_snapshot profile
stage_of profile snap (suc zero) = at_time profile
stage_of profile snap (suc (suc zero)) = at_heap profile snap.time
stage_of profile snap (suc (suc (suc zero))) = at_extra profile snap.time snap.heap
stage_of profile snap (suc (suc (suc (suc zero)))) = at_stacks profile snap.time snap.heap snap.extra
stage_of profile snap (suc (suc (suc (suc (suc n))))) = at_mark profile snap.time snap.heap snap.extra snap.stacks

lead_snapshot : (front : List (List ℕ)) (profile : Profile) (snap : Snap) (count : ℕ) → count ≤ 5
    → InSnapshot front profile snap count → LeadsTo front (stage_of profile snap count)
lead_snapshot front profile snap zero few h =
    lead profile front _ (at_snapshot profile) h.begun h.right refl (none_left (at_snapshot profile))
lead_snapshot front profile snap (suc zero) few h =
    lead profile front _ (at_time profile) h.begun h.right refl (after_one profile)
lead_snapshot front profile snap (suc (suc zero)) few h =
    lead profile front _ (at_heap profile snap.time) h.begun h.right refl
    (after_two profile snap.time (h.in_order (omega arith)))
lead_snapshot front profile snap (suc (suc (suc zero))) few h =
    lead profile front _ (at_extra profile snap.time snap.heap) h.begun h.right refl
    (after_three profile snap.time snap.heap (h.in_order (omega arith)))
lead_snapshot front profile snap (suc (suc (suc (suc zero)))) few h =
    lead profile front _ (at_stacks profile snap.time snap.heap snap.extra) h.begun h.right refl
    (after_four profile snap.time snap.heap snap.extra (h.in_order (omega arith)))
lead_snapshot front profile snap (suc (suc (suc (suc (suc zero))))) few h =
    lead profile front _ (at_mark profile snap.time snap.heap snap.extra snap.stacks) h.begun h.right refl
    (after_five profile snap.time snap.heap snap.extra snap.stacks (h.in_order (omega arith)))
lead_snapshot front profile snap (suc (suc (suc (suc (suc (suc n)))))) few h = absurd (omega arith)

lead_tree : (front : List (List ℕ)) (profile : Profile) (snap : Snap) (to_come : List ℕ)
    → InTree front profile snap to_come → LeadsTo front (in_tree profile snap to_come)
lead_tree front profile snap to_come h =
    lead profile front _ (in_tree profile snap to_come) h.begun h.right refl
    (after_tree profile snap to_come h.in_order h.marked h.leads h.more)

lead_header : (front : List (List ℕ)) (desc : List ℕ) → Describe [] front desc → LeadsTo front (in_descriptions desc)
lead_header front desc h = record { runs = run_descriptions [] front desc h; taken_so_far = refl }

-- ---- the line is refused there

pub record Stops (front : List (List ℕ)) (line : List ℕ) (fault : ProfileFault) : Type 0 where
  pub progress : Progress
  pub leads : LeadsTo front progress
  pub refused : fault_in (taken progress line) ≡ Some fault

-- no value after a key
no_header : (o : Option (List ℕ)) → o ≡ None → option_map without_blanks o ≡ None
no_header o none = ap (option_map without_blanks) none

module _ (front : List (List ℕ)) (line : List ℕ) where
  stops_header : IsBadHeader front line → Stops front line BadHeader
  unfolding taken
  stops_header (inl (desc, h, d, c)) = record {
    progress = in_descriptions desc;
    leads = lead_header front desc h;
    refused = ap (λ (o : Option (List ℕ)). fault_in (after_header_line desc line o)) (no_header _ d)
        ∙ ap (λ (o : Option (List ℕ)). fault_in (go_on (at_unit desc) (or_fault BadHeader o))) (no_header _ c);
  }
  stops_header (inr (desc, cmd, b, none)) =
      record {
        progress = at_unit desc cmd;
        leads = lead_unit front desc cmd b;
        refused = by (unit_in (header_value (codes "time_unit:") line)) refl;
      }
    where
      by : (o : Option TimeUnit) → unit_in (header_value (codes "time_unit:") line) ≡ o
          → fault_in
          (go_on (λ unit. at_snapshot (record { desc = desc; cmd = cmd; unit = unit; snaps = [] }))
          (or_fault BadHeader o))
          ≡ Some BadHeader
      by None q = refl
      by (Some unit) q = absurd (none unit q)

  -- a number's line that has none
  at_stage : (fault : ProfileFault) (profile : Profile) (snap : Snap) (count : ℕ) (key : List ℕ)
      → slice_get number_keys count ≡ Some key → key_number key line ≡ Err fault
      → fault_in (taken (stage_of profile snap count) line) ≡ Some fault
  unfolding taken
  at_stage fault profile snap zero key k e =
      ap (λ (r : Result ℕ ProfileFault). fault_in
      (go_on (λ n. cond (eqb n (length profile.snaps)) (at_time profile) (refused_for WrongOrder)) r)) (ap
      (λ (x : List ℕ). key_number x line) (same_Some _ key k)
      ∙ e)
  at_stage fault profile snap (suc zero) key k e =
      ap (λ (r : Result ℕ ProfileFault). fault_in
      (go_on (λ time. cond (ltb time (last_time profile.snaps)) (refused_for WrongOrder) (at_heap profile time))
      r))
      (ap
      (λ (x : List ℕ). key_number x line) (same_Some _ key k)
      ∙ e)
  at_stage fault profile snap (suc (suc zero)) key k e =
      ap (λ (r : Result ℕ ProfileFault). fault_in (go_on (at_extra profile snap.time) r))
      (ap (λ (x : List ℕ). key_number x line) (same_Some _ key k) ∙ e)
  at_stage fault profile snap (suc (suc (suc zero))) key k e =
      ap (λ (r : Result ℕ ProfileFault). fault_in (go_on (at_stacks profile snap.time snap.heap) r))
      (ap (λ (x : List ℕ). key_number x line) (same_Some _ key k) ∙ e)
  at_stage fault profile snap (suc (suc (suc (suc zero)))) key k e =
      ap (λ (r : Result ℕ ProfileFault). fault_in (go_on (at_mark profile snap.time snap.heap snap.extra) r))
      (ap (λ (x : List ℕ). key_number x line) (same_Some _ key k) ∙ e)
  at_stage fault profile snap (suc (suc (suc (suc (suc n))))) key k e = absurd cc

  -- only five numbers have keys
  few_keys : (count : ℕ) (key : List ℕ) → slice_get number_keys count ≡ Some key → count ≤ 5
  few_keys zero key k = omega arith
  few_keys (suc zero) key k = omega arith
  few_keys (suc (suc zero)) key k = omega arith
  few_keys (suc (suc (suc zero))) key k = omega arith
  few_keys (suc (suc (suc (suc zero)))) key k = omega arith
  few_keys (suc (suc (suc (suc (suc n))))) key k = absurd cc

  stops_number : (fault : ProfileFault) (key : List ℕ) → AwaitsNumber front key → key_number key line ≡ Err fault
      → Stops front line fault
  stops_number fault key a e = record {
    progress = stage_of a.profile a.snap a.count;
    leads = lead_snapshot front a.profile a.snap a.count (few_keys a.count key a.key_is) a.begun;
    refused = at_stage fault a.profile a.snap a.count key a.key_is e;
  }

  stops_snapshot : IsBadSnapshot front line → Stops front line BadSnapshot
  unfolding taken key_number
  stops_snapshot (inl (key, a, v)) = stops_number BadSnapshot key a (ap number_in v)
  stops_snapshot (inr (a, none)) = record {
    progress = at_mark a.profile a.snap.time a.snap.heap a.snap.extra a.snap.stacks;
    leads = lead_snapshot front a.profile a.snap 5 (omega arith) a.begun;
    refused = by (mark_in (value_after (codes "heap_tree=") line)) refl;
  }
    where
      by : (o : Option HeapTree) → mark_in (value_after (codes "heap_tree=") line) ≡ o
          → fault_in
          (go_on
          (λ mark. after_mark a.profile
          (record {
            time = a.snap.time;
            heap = a.snap.heap;
            extra = a.snap.extra;
            stacks = a.snap.stacks;
            mark = mark;
            tree = [];
          })
          mark)
          (or_fault BadSnapshot o))
          ≡ Some BadSnapshot
      by None q = refl
      by (Some mark) q = absurd (none mark q)

  stops_value : IsBadNumber front line → Stops front line BadNumber
  unfolding key_number
  stops_value (key, value, a, v, n) = stops_number BadNumber key a (ap number_in v ∙ ap (or_fault BadNumber) n)

  stops_order : IsWrongOrder front line → Stops front line WrongOrder
  unfolding taken
  stops_order (inl (profile, snap, n, h, k, other)) = record {
    progress = at_snapshot profile;
    leads = lead_snapshot front profile snap 0 (omega arith) h;
    refused =
        ap (λ (r : Result ℕ ProfileFault). fault_in
        (go_on (λ m. cond (eqb m (length profile.snaps)) (at_time profile) (refused_for WrongOrder)) r)) k
        ∙ elim (cases_Bool (eqb n (length profile.snaps))) [
          | inl same ↦ absurd (other (eqb-true n (length profile.snaps) same))
          | inr apart ↦ ap (λ (t : Bool). fault_in (cond t (at_time profile) (refused_for WrongOrder))) apart
        ];
  }
  stops_order (inr (profile, snap, time, h, k, less)) = record {
    progress = at_time profile;
    leads = lead_snapshot front profile snap 1 (omega arith) h;
    refused =
        ap (λ (r : Result ℕ ProfileFault). fault_in
        (go_on (λ t. cond (ltb t (last_time profile.snaps)) (refused_for WrongOrder) (at_heap profile t)) r)) k
        ∙ ap (λ (t : Bool). fault_in (cond t (refused_for WrongOrder) (at_heap profile time)))
        (lt-ltb time (last_time profile.snaps) less);
  }

  stops_tree : IsBadTree front line → Stops front line BadTree
  unfolding taken
  stops_tree (profile, snap, to_come, h, why) =
      record {
        progress = in_tree profile snap to_come;
        leads = lead_tree front profile snap to_come h;
        refused = by why (ltb 257 (length to_come)) refl;
      }
    where
      wrong : ((node : TreeLine) → ¬ Says line (node_item node)) → (o : Option TreeLine) → tree_line_of line ≡ o
          → fault_in (go_on (after_tree_line profile snap to_come) (or_fault BadTree o)) ≡ Some BadTree
      wrong none None q = refl
      wrong none (Some node) q = absurd (none node q)

      by : (257 < length to_come) ⊎ ((node : TreeLine) → ¬ Says line (node_item node)) → (t : Bool)
          → ltb 257 (length to_come) ≡ t
          → fault_in
          (cond t (refused_for BadTree)
          (go_on (after_tree_line profile snap to_come) (or_fault BadTree (tree_line_of line))))
          ≡ Some BadTree
      by w true q = refl
      by (inl deep) false q = absurd (let other : false ≡ true = sym q ∙ lt-ltb 257 (length to_come) deep in cc)
      by (inr none) false q = wrong none (tree_line_of line) refl

  -- for each fault
  pub stops : (fault : ProfileFault) → Refuses front line fault → Stops front line fault
  stops BadHeader h = stops_header h
  stops BadSnapshot h = stops_snapshot h
  stops BadNumber h = stops_value h
  stops WrongOrder h = stops_order h
  stops BadTree h = stops_tree h
  stops Truncated h = absurd h
  stops NoMemory h = absurd h

-- ---- lines that end too early

pub record StopsAtEnd (front : List (List ℕ)) : Type 0 where
  pub progress : Progress
  pub leads : LeadsTo front progress
  pub truncated : end_of progress ≡ Err Truncated

-- no stage of a snapshot may end the lines
no_end : (profile : Profile) (snap : Snap) (count : ℕ) → 0 < count
    → end_of (stage_of profile snap count) ≡ Err Truncated
no_end profile snap zero some = absurd (omega arith)
no_end profile snap (suc zero) some = refl
no_end profile snap (suc (suc zero)) some = refl
no_end profile snap (suc (suc (suc zero))) some = refl
no_end profile snap (suc (suc (suc (suc zero)))) some = refl
no_end profile snap (suc (suc (suc (suc (suc n))))) some = refl

pub stops_at_end : (front : List (List ℕ)) → EndsEarly front → StopsAtEnd front
stops_at_end front (early.in_descriptions desc h) =
    record { progress = in_descriptions desc; leads = lead_header front desc h; truncated = refl }
stops_at_end front (early.before_unit desc cmd b) =
    record { progress = at_unit desc cmd; leads = lead_unit front desc cmd b; truncated = refl }
stops_at_end front (early.before_snapshots profile none b) = record {
  progress = at_snapshot profile;
  leads =
      lead profile front [] (at_snapshot profile)
      (subst (Begins front profile.desc) (sym (append-nil (items_of profile))) b) (subst (AreRight 0) (sym none) tt)
      refl (none_left (at_snapshot profile));
  truncated = ap (λ (snaps : List Snap). cond (ltb 0 (length snaps)) (Ok profile) (Err Truncated)) none;
}
stops_at_end front (early.in_snapshot profile snap count some few h) =
    record {
      progress = stage_of profile snap count;
      leads = lead_snapshot front profile snap count few h;
      truncated = no_end profile snap count some;
    }
stops_at_end front (early.in_tree profile snap to_come h) =
    record { progress = in_tree profile snap to_come; leads = lead_tree front profile snap to_come h; truncated = refl }
