-- That the interpreted lines of a raw trace bring the events of its blocks.
use Rattle.std.proofs.Common.{◌≡◌, ℕ, suc, ◌+◌, Bool, true, false, not, cond, ◌||◌, List, [], ◌∷◌, ◌++◌, length, map}
use Rattle.std.proofs.Common.{reverse, Option, Some, None, refl, sym, ap, ◌∙◌, arith, append_assoc, append-nil, subst}
use Rattle.std.proofs.Common.{true≢false}
use Rattle.std.specs.Prelude.{◌==◌, drop, slice_get, sum_by}
use Rattle.std.specs.List.{AllByRecursion, list_any}
use Rattle.std.specs.Option.{option_map, option_to_list}
use Rattle.std.proofs.Math.Seq.{drop-append_seam, drop-length}
use Rattle.std.proofs.lemmas.List.{map-append}
use Rattle.std.proofs.lemmas.List.Elements.{filter_map-append}
use Rattle.std.proofs.lemmas.List.Folds.{list_any-append}
use Rattle.std.proofs.lemmas.List.Sums.{sum_by-append}
use Rattle.std.proofs.lemmas.Option.{slice_get-map}
use Rattle.ht_lines.specs.Content.{Content, string_line, clear_line, module_line, instruction_line, node_line}
use Rattle.ht_lines.specs.Content.{info_line, allocation_line, free_line, raw_allocation_line, raw_free_line}
use Rattle.ht_lines.specs.Content.{clock_line}
use Rattle.ht_trace.specs.Gathered.{gathered}
use Rattle.ht_trace.specs.StepOf.{event_in}
use Rattle.ht_trace.specs.TraceLists as lists
use Rattle.live_ledger.specs.declared.event.Event.{Event}
use Rattle.live_ledger.specs.declared.event.Event.TheVariants.{Alloc, Free, Tick}
use Rattle.live_ledger.specs.LedgerState.{HeldInfo}
use Rattle.interpret.specs.declared.infos.AllocationInfo.{AllocationInfo}
use Rattle.interpret.specs.FirstAppearances.{with_all, with_new}
use Rattle.interpret.specs.Interpreted.{info_said, new_in}
use Rattle.interpret.specs.InterpretedSaid.{events_said, interpreted_events, interpreted_said, told_after, told_from}
use Rattle.interpret.specs.RawBlocks.{RawBlock, freed_by, freed_info, held}
use Rattle.interpret.specs.RawLedger.{block_in, blocks, freed}
use Rattle.interpret.specs.RawContents.{IsRaw}
use Rattle.interpret.specs.RawTables.{info_in, info_number, infos, new_call, same_info, tables_of}
use Rattle.interpret.specs.Resolved.{Resolved, instruction_said}
use Rattle.interpret.specs.SymbolLine.{Symbol}
use Rattle.ht_trace.proofs.Laws.{gathered-push}
use Rattle.interpret.proofs.GrowthLemmas.{infos-push}
use Rattle.interpret.proofs.PointerLemmas.{held-push}
use Rattle.interpret.proofs.RepeatLemmas.{infos-decide}

-- what a list gives behind others
pub gathered-append : {X Y : Type 0} (f : List X → X → Option Y) (earlier xs ys : List X)
    → gathered f earlier (xs ++ ys) ≡ gathered f earlier xs ++ gathered f (earlier ++ xs) ys
gathered-append f earlier [] ys = ap (λ before. gathered f before ys) (sym (append-nil earlier))
gathered-append f earlier (x ∷ xs) ys =
    ap (λ rest. option_to_list (f earlier x) ++ rest)
    (gathered-append f (earlier ++ x ∷ []) xs ys
    ∙ ap (λ before. gathered f (earlier ++ x ∷ []) xs ++ gathered f before ys) (append_assoc earlier (x ∷ []) xs))
    ∙ sym (append_assoc (option_to_list (f earlier x)) (gathered f (earlier ++ x ∷ []) xs)
    (gathered f (earlier ++ x ∷ xs) ys))

-- an event of what a line says after others
abbrev pub event_behind : List Content → Content → Option Event
event_behind earlier said = event_in (lists.infos earlier) said

pub events-append : (xs ys : List Content) → events_said (xs ++ ys) ≡ events_said xs ++ gathered event_behind xs ys
unfolding events_said
events-append xs ys = gathered-append event_behind [] xs ys

told-push : (symbols : List Symbol) (earlier said : List Content) (c : Content)
    → told_from symbols earlier (said ++ c ∷ [])
    ≡ told_from symbols earlier said ++ told_after symbols (earlier ++ said) c
told-push symbols earlier [] c = append-nil _ ∙ ap (λ before. told_after symbols before c) (sym (append-nil earlier))
told-push symbols earlier (x ∷ xs) c =
    ap (λ rest. told_after symbols earlier x ++ rest)
    (told-push symbols (earlier ++ x ∷ []) xs c
    ∙ ap (λ before. told_from symbols (earlier ++ x ∷ []) xs ++ told_after symbols before c)
    (append_assoc earlier (x ∷ []) xs))
    ∙ sym (append_assoc (told_after symbols earlier x) (told_from symbols (earlier ++ x ∷ []) xs)
    (told_after symbols (earlier ++ x ∷ xs) c))

pub interpreted-push : (symbols : List Symbol) (said : List Content) (c : Content)
    → interpreted_said symbols (said ++ c ∷ []) ≡ interpreted_said symbols said ++ told_after symbols said c
unfolding interpreted_said
interpreted-push symbols said c = told-push symbols [] said c

-- the info of a pair, as a trace holds it
abbrev pub held_of : AllocationInfo → HeldInfo
held_of info = record { stack = info.trace; size = info.size }

-- lines that bring neither an info nor an event
abbrev pub IsQuiet : Content → Type 0
IsQuiet said = (lists.info_in said ≡ None) × ((infos : List HeldInfo) → event_in infos said ≡ None)

quiet-infos : (xs : List Content) → AllByRecursion IsQuiet xs → lists.infos xs ≡ []
quiet-infos [] all = refl
quiet-infos (x ∷ xs) all = rw (all.0.0) (quiet-infos xs all.1)

pub quiet-events : (earlier xs : List Content) → AllByRecursion IsQuiet xs → gathered event_behind earlier xs ≡ []
quiet-events earlier [] all = refl
quiet-events earlier (x ∷ xs) all = rw (all.0.1 (lists.infos earlier)) (quiet-events (earlier ++ x ∷ []) xs all.1)

pub all-append : {X : Type 0} (P : X → Type 0) (xs ys : List X) → AllByRecursion P xs → AllByRecursion P ys
    → AllByRecursion P (xs ++ ys)
all-append P [] ys a b = b
all-append P (x ∷ xs) ys a b = (a.0, all-append P xs ys a.1 b)

pub quiet-strings : (names : List (List ℕ)) → AllByRecursion IsQuiet (map string_line names)
quiet-strings [] = tt
quiet-strings (name ∷ names) = ((refl, λ infos. refl), quiet-strings names)

pub quiet-instructions : (names : List (List ℕ)) (calls : List Resolved)
    → AllByRecursion IsQuiet (map (instruction_said names) calls)
unfolding instruction_said
quiet-instructions names [] = tt
quiet-instructions names (call ∷ calls) = ((refl, λ infos. refl), quiet-instructions names calls)

-- infos alone bring no event
infos-quiet : (earlier : List Content) (more : List AllocationInfo)
    → gathered event_behind earlier (map info_said more) ≡ []
infos-quiet earlier [] = refl
infos-quiet earlier (info ∷ more) = infos-quiet (earlier ++ info_said info ∷ []) more

pub infos-of : (more : List AllocationInfo) → lists.infos (map info_said more) ≡ map held_of more
infos-of [] = refl
infos-of (info ∷ more) = ap (λ (l : List HeldInfo). held_of info ∷ l) (infos-of more)

pub infos-append : (xs ys : List Content) → lists.infos (xs ++ ys) ≡ lists.infos xs ++ lists.infos ys
infos-append xs ys = filter_map-append lists.info_in xs ys

-- what is new at the end of a list of infos
new-infos : (held : List AllocationInfo) (info : AllocationInfo)
    → held ++ new_in held (with_new same_info held info) ≡ with_new same_info held info
new-infos held info = by (list_any (same_info info) held)
  where
    by : (b : Bool) → held ++ drop (length held) (cond b held (held ++ info ∷ [])) ≡ cond b held (held ++ info ∷ [])
    by true = ap (λ (l : List AllocationInfo). held ++ l) (drop-length held) ∙ append-nil held
    by false = ap (λ (l : List AllocationInfo). held ++ l) (drop-append_seam held (info ∷ []))

-- the info of a number is the info whose number it is
pub info-at : (held : List AllocationInfo) (info : AllocationInfo) → list_any (same_info info) held ≡ true
    → slice_get held (info_number held info) ≡ Some info
info-at [] info none = absurd (true≢false (sym none))
info-at (x ∷ held) info some = by (same_info info x) refl some (λ rest. info-at held info rest)
  where
    by : (b : Bool) → same_info info x ≡ b → (b || list_any (same_info info) held) ≡ true
        → (list_any (same_info info) held ≡ true → slice_get held (info_number held info) ≡ Some info)
        → slice_get (x ∷ held) (cond (not b) (1 + info_number held info) 0) ≡ Some info
    by true e there rest = ap Some (sym ((infos-decide info x).0 e))
    by false e there rest =
        let next : 1 + info_number held info ≡ suc (info_number held info) =
        omega arith in ap (λ (k : ℕ). slice_get (x ∷ held) k) next ∙ rest there

held-info : (held : List AllocationInfo) (info : AllocationInfo) → list_any (same_info info) held ≡ true
    → slice_get (map held_of held) (info_number held info) ≡ Some (held_of info)
held-info held info there =
    slice_get-map held_of held (info_number held info)
    ∙ ap (λ (o : Option AllocationInfo). option_map held_of o) (info-at held info there)

-- an info that is added is held, and one that was held stays
added-held : (held : List AllocationInfo) (info : AllocationInfo)
    → list_any (same_info info) (with_new same_info held info) ≡ true
added-held held info = by (list_any (same_info info) held) refl
  where
    by : (b : Bool) → list_any (same_info info) held ≡ b
        → list_any (same_info info) (cond b held (held ++ info ∷ [])) ≡ true
    by true e = e
    by false e =
        list_any-append (same_info info) held (info ∷ []) ∙ ap (λ (b : Bool). b || (same_info info info || false)) e
        ∙ ap (λ (b : Bool). b || false) ((infos-decide info info).1 refl)

pub stays-held : (held : List AllocationInfo) (info other : AllocationInfo) → list_any (same_info other) held ≡ true
    → list_any (same_info other) (with_new same_info held info) ≡ true
stays-held held info other there = by (list_any (same_info info) held)
  where
    by : (b : Bool) → list_any (same_info other) (cond b held (held ++ info ∷ [])) ≡ true
    by true = there
    by false =
        list_any-append (same_info other) held (info ∷ []) ∙ ap
        (λ (b : Bool). b || (same_info other info || false)) there

-- what an event counts for, by the block that it allocates or frees
pub record CountsAllocs (f : Event → ℕ) (w : RawBlock → ℕ) : Type 0 where
  pub alloc : (n : ℕ) (block : RawBlock) → f (Alloc n block.info.trace block.info.size) ≡ w block
  pub free : (n stack size : ℕ) → f (Free n stack size) ≡ 0
  pub tick : (ms : ℕ) → f (Tick ms) ≡ 0

pub record CountsFrees (f : Event → ℕ) (w : RawBlock → ℕ) : Type 0 where
  pub alloc : (n stack size : ℕ) → f (Alloc n stack size) ≡ 0
  pub free : (n : ℕ) (block : RawBlock) → f (Free n block.info.trace block.info.size) ≡ w block
  pub tick : (ms : ℕ) → f (Tick ms) ≡ 0

-- the interpreted lines have the infos of the raw ones, and their events are those of the blocks
pub record AreTold (symbols : List Symbol) (said : List Content) : Type 0 where
  pub infos_are : lists.infos (interpreted_said symbols said) ≡ map held_of (infos said)
  pub block_infos : (ptr : ℕ) (block : RawBlock) → held said ptr ≡ Some block
      → list_any (same_info block.info) (infos said) ≡ true
  pub allocs : (f : Event → ℕ) (w : RawBlock → ℕ) → CountsAllocs f w
      → sum_by f (interpreted_events symbols said) ≡ sum_by w (blocks said)
  pub frees : (f : Event → ℕ) (w : RawBlock → ℕ) → CountsFrees f w
      → sum_by f (interpreted_events symbols said) ≡ sum_by w (freed said)

-- what one line adds: infos, and the events of the blocks that it allocates or frees
record Adds (symbols : List Symbol) (said : List Content) (c : Content) : Type 0 where
  more_infos : lists.infos (told_after symbols said c) ≡ map held_of (new_in (infos said) (infos (said ++ c ∷ [])))
  allocs : (f : Event → ℕ) (w : RawBlock → ℕ) → CountsAllocs f w
      → sum_by f (gathered event_behind (interpreted_said symbols said) (told_after symbols said c))
      ≡ sum_by w (option_to_list (block_in said c))
  frees : (f : Event → ℕ) (w : RawBlock → ℕ) → CountsFrees f w
      → sum_by f (gathered event_behind (interpreted_said symbols said) (told_after symbols said c))
      ≡ sum_by w (option_to_list (freed_by said c))

-- lines without infos and events
quiet-adds : (symbols : List Symbol) (said : List Content) (c : Content)
    → AllByRecursion IsQuiet (told_after symbols said c) → infos (said ++ c ∷ []) ≡ infos said → block_in said c ≡ None
    → freed_by said c ≡ None → Adds symbols said c
quiet-adds symbols said c all same no_block no_free = record {
  more_infos =
      quiet-infos (told_after symbols said c) all
      ∙ sym (ap (λ (l : List AllocationInfo). map held_of (new_in (infos said) l)) same
      ∙ ap (λ (l : List AllocationInfo). map held_of l) (drop-length (infos said)));
  allocs =
      λ f w counts. ap (λ (l : List Event). sum_by f l)
      (quiet-events (interpreted_said symbols said) (told_after symbols said c) all)
      ∙ ap (λ (o : Option RawBlock). sum_by w (option_to_list o)) (sym no_block);
  frees =
      λ f w counts. ap (λ (l : List Event). sum_by f l)
      (quiet-events (interpreted_said symbols said) (told_after symbols said c) all)
      ∙ ap (λ (o : Option RawBlock). sum_by w (option_to_list o)) (sym no_free);
}

-- the infos stay but at an allocation
pub infos-same : (said : List Content) (c : Content) → info_in c ≡ None → infos (said ++ c ∷ []) ≡ infos said
infos-same said c none =
    infos-push said c ∙ ap (λ (o : Option AllocationInfo). with_all same_info (infos said) (option_to_list o)) none

-- one event
one-event : (f : Event → ℕ) (event : Event) → sum_by f (event ∷ []) ≡ f event
one-event f event = omega arith

-- the infos behind an allocation's lines
infos-behind : (symbols : List Symbol) (said : List Content) (size trace ptr : ℕ) → AreTold symbols said
    → lists.infos
    (interpreted_said symbols said
    ++ map info_said (new_in (infos said) (infos (said ++ raw_allocation_line size trace ptr ∷ []))))
    ≡ map held_of (infos (said ++ raw_allocation_line size trace ptr ∷ []))
infos-behind symbols said size trace ptr are =
    let c = raw_allocation_line size trace ptr in
    let told = interpreted_said symbols said in
    let grown : infos (said ++ c ∷ [])
    ≡ with_new same_info (infos said) (record { size = size; trace = trace }) = infos-push said c in
    let more = new_in (infos said) (infos (said ++ c ∷ [])) in
    infos-append told (map info_said more)
    ∙ ap (λ (l : List HeldInfo). l ++ lists.infos (map info_said more)) are.infos_are
    ∙ ap (λ (l : List HeldInfo). map held_of (infos said) ++ l) (infos-of more)
    ∙ sym (map-append held_of (infos said) more)
    ∙ ap (λ (l : List AllocationInfo). map held_of l)
    (ap (λ (l : List AllocationInfo). infos said ++ new_in (infos said) l) grown
    ∙ new-infos (infos said) (record { size = size; trace = trace }) ∙ sym grown)

pub now-held : (said : List Content) (size trace ptr : ℕ)
    → list_any (same_info (record { size = size; trace = trace }))
    (infos (said ++ raw_allocation_line size trace ptr ∷ []))
    ≡ true
now-held said size trace ptr =
    ap (λ (l : List AllocationInfo). list_any (same_info (record { size = size; trace = trace })) l)
    (infos-push said (raw_allocation_line size trace ptr))
    ∙ added-held (infos said) (record { size = size; trace = trace })

-- the one event of an allocation
pub alloc-event : (symbols : List Symbol) (said : List Content) (size trace ptr : ℕ) → AreTold symbols said
    → gathered event_behind (interpreted_said symbols said)
    (told_after symbols said (raw_allocation_line size trace ptr))
    ≡ Alloc (info_number (infos (said ++ raw_allocation_line size trace ptr ∷ []))
    (record { size = size; trace = trace })) trace size
    ∷ []
alloc-event symbols said size trace ptr are =
    let c = raw_allocation_line size trace ptr in
    let told = interpreted_said symbols said in
    let more = new_in (infos said) (infos (said ++ c ∷ [])) in
    let number = info_number (infos (said ++ c ∷ [])) (record { size = size; trace = trace }) in
    gathered-append event_behind told (map info_said more) (allocation_line number ∷ [])
    ∙ ap (λ (l : List Event). l ++ gathered event_behind (told ++ map info_said more) (allocation_line number ∷ []))
    (infos-quiet told more)
    ∙ ap (λ (l : List HeldInfo). option_to_list
    (option_map (λ (found : HeldInfo). Alloc number found.stack found.size) (slice_get l number))
    ++ []) (infos-behind
    symbols said size trace ptr are)
    ∙ ap (λ (o : Option HeldInfo). option_to_list
    (option_map (λ (found : HeldInfo). Alloc number found.stack found.size) o)
    ++ []) (held-info
    (infos (said ++ c ∷ [])) (record { size = size; trace = trace }) (now-held said size trace ptr))

alloc-adds : (symbols : List Symbol) (said : List Content) (size trace ptr : ℕ) → AreTold symbols said
    → Adds symbols said (raw_allocation_line size trace ptr)
alloc-adds symbols said size trace ptr are =
    let c = raw_allocation_line size trace ptr in
    let block : RawBlock = record { place = length said; info = record { size = size; trace = trace } } in
    let more = new_in (infos said) (infos (said ++ c ∷ [])) in
    let number = info_number (infos (said ++ c ∷ [])) (record { size = size; trace = trace }) in
    let event = alloc-event symbols said size trace ptr are in
    record {
      more_infos =
          infos-append (map info_said more) (allocation_line number ∷ []) ∙ append-nil
          (lists.infos (map info_said more))
          ∙ infos-of more;
      allocs =
          λ f w counts. ap (λ (l : List Event). sum_by f l) event ∙ one-event f (Alloc number trace size)
          ∙ counts.alloc number block ∙ sym (one-block w block);
      frees =
          λ f w counts. ap (λ (l : List Event). sum_by f l) event ∙ one-event f (Alloc number trace size)
          ∙ counts.alloc number trace size;
    }
  where
    one-block : (w : RawBlock → ℕ) (block : RawBlock) → sum_by w (block ∷ []) ≡ w block
    one-block w block = omega arith

-- the one event of a free
pub free-event : (symbols : List Symbol) (said : List Content) (ptr : ℕ) (block : RawBlock) → held said ptr ≡ Some block
    → AreTold symbols said
    → gathered event_behind (interpreted_said symbols said) (told_after symbols said (raw_free_line ptr))
    ≡ Free (info_number (infos said) block.info) block.info.trace block.info.size ∷ []
free-event symbols said ptr block here are =
    let told = interpreted_said symbols said in
    let number = info_number (infos said) block.info in
    let lines : told_after symbols said (raw_free_line ptr) ≡ free_line number ∷ [] =
    ap (λ (o : Option RawBlock). map free_line (option_to_list (freed_info (infos said) o))) here in
    ap (λ (l : List Content). gathered event_behind told l) lines
    ∙ ap (λ (l : List HeldInfo). option_to_list
    (option_map (λ (found : HeldInfo). Free number found.stack found.size) (slice_get l number))
    ++ []) are.infos_are
    ∙ ap (λ (o : Option HeldInfo). option_to_list
    (option_map (λ (found : HeldInfo). Free number found.stack found.size) o)
    ++ []) (held-info
    (infos said) block.info (are.block_infos ptr block here))

free-adds : (symbols : List Symbol) (said : List Content) (ptr : ℕ) (o : Option RawBlock) → held said ptr ≡ o
    → AreTold symbols said → Adds symbols said (raw_free_line ptr)
free-adds symbols said ptr None here are =
    let told : told_after symbols said (raw_free_line ptr) ≡ [] =
    ap (λ (o : Option RawBlock). map free_line (option_to_list (freed_info (infos said) o))) here in
    quiet-adds symbols said (raw_free_line ptr) (subst (λ (l : List Content). AllByRecursion IsQuiet l) (sym told) tt)
    (infos-same said (raw_free_line ptr) refl) refl here
free-adds symbols said ptr (Some block) here are =
    let c = raw_free_line ptr in
    let number = info_number (infos said) block.info in
    let lines : told_after symbols said c ≡ free_line number ∷ [] =
    ap (λ (o : Option RawBlock). map free_line (option_to_list (freed_info (infos said) o))) here in
    let event = free-event symbols said ptr block here are in
    record {
      more_infos =
          ap (λ (l : List Content). lists.infos l) lines
          ∙ sym
          (ap (λ (l : List AllocationInfo). map held_of (new_in (infos said) l)) (infos-same said c refl)
          ∙ ap (λ (l : List AllocationInfo). map held_of l) (drop-length (infos said)));
      allocs =
          λ f w counts. ap (λ (l : List Event). sum_by f l) event
          ∙ one-event f (Free number block.info.trace block.info.size)
          ∙ counts.free number block.info.trace block.info.size;
      frees =
          λ f w counts. ap (λ (l : List Event). sum_by f l) event
          ∙ one-event f (Free number block.info.trace block.info.size) ∙ counts.free number block
          ∙ sym (one-block w block) ∙ ap (λ (o : Option RawBlock). sum_by w (option_to_list o)) (sym here);
    }
  where
    one-block : (w : RawBlock → ℕ) (block : RawBlock) → sum_by w (block ∷ []) ≡ w block
    one-block w block = omega arith

pub node-quiet : (symbols : List Symbol) (said : List Content) (ip parent : ℕ)
    → AllByRecursion IsQuiet (told_after symbols said (node_line ip parent))
node-quiet symbols said ip parent =
    let before = tables_of symbols said in
    let after = tables_of symbols (said ++ node_line ip parent ∷ []) in
    all-append IsQuiet (map string_line (new_in before.names after.names)) _
    (quiet-strings (new_in before.names after.names))
    (all-append IsQuiet (map (instruction_said after.names) (option_to_list (new_call symbols before ip))) _
    (quiet-instructions after.names (option_to_list (new_call symbols before ip))) ((refl, λ infos. refl), tt))

node-adds : (symbols : List Symbol) (said : List Content) (ip parent : ℕ) → Adds symbols said (node_line ip parent)
node-adds symbols said ip parent =
    quiet-adds symbols said (node_line ip parent) (node-quiet symbols said ip parent)
    (infos-same said (node_line ip parent) refl) refl refl

clock-adds : (symbols : List Symbol) (said : List Content) (ms : ℕ) → Adds symbols said (clock_line ms)
clock-adds symbols said ms = record {
  more_infos =
      sym (ap (λ (l : List AllocationInfo). map held_of (new_in (infos said) l)) (infos-same said (clock_line ms) refl)
      ∙ ap (λ (l : List AllocationInfo). map held_of l) (drop-length (infos said)));
  allocs = λ f w counts. one-event f (Tick ms) ∙ counts.tick ms;
  frees = λ f w counts. one-event f (Tick ms) ∙ counts.tick ms;
}

adds : (symbols : List Symbol) (said : List Content) (c : Content) → IsRaw c → AreTold symbols said
    → Adds symbols said c
adds symbols said (string_line bytes) raw are = absurd raw
adds symbols said (instruction_line ip module_string frames) raw are = absurd raw
adds symbols said (info_line size trace) raw are = absurd raw
adds symbols said (allocation_line info) raw are = absurd raw
adds symbols said (free_line info) raw are = absurd raw
adds symbols said (raw_allocation_line size trace ptr) raw are = alloc-adds symbols said size trace ptr are
adds symbols said (raw_free_line ptr) raw are = free-adds symbols said ptr (held said ptr) refl are
adds symbols said (node_line ip parent) raw are = node-adds symbols said ip parent
adds symbols said (clock_line ms) raw are = clock-adds symbols said ms
adds symbols said clear_line raw are = quiet-adds symbols said clear_line tt (infos-same said clear_line refl) refl refl
adds symbols said (module_line name start ranges) raw are =
    quiet-adds symbols said (module_line name start ranges) tt (infos-same said (module_line name start ranges) refl)
    refl refl
adds symbols said c raw are = quiet-adds symbols said c ((refl, λ infos. refl), tt) (infos-same said c refl) refl refl

-- the infos of blocks are held
blocks-held : (said : List Content) (c : Content)
    → ((ptr : ℕ) (block : RawBlock) → held said ptr ≡ Some block → list_any (same_info block.info) (infos said) ≡ true)
    → (ptr : ℕ) (block : RawBlock) → held (said ++ c ∷ []) ptr ≡ Some block
    → list_any (same_info block.info) (infos (said ++ c ∷ [])) ≡ true
unfolding held
blocks-held said (raw_allocation_line size trace named) old ptr block is =
    let grown = infos-push said (raw_allocation_line size trace named) in
    ap (λ (l : List AllocationInfo). list_any (same_info block.info) l) grown
    ∙ by (named == ptr) (sym (held-push said (raw_allocation_line size trace named) ptr) ∙ is)
  where
    by : (b : Bool)
        → cond {A = Option RawBlock} b
        (Some (record { place = length (reverse said); info = record { size = size; trace = trace } })) (held said ptr)
        ≡ Some block
        → list_any (same_info block.info) (with_new same_info (infos said) (record { size = size; trace = trace }))
        ≡ true
    by true e =
        let same : record { size = size; trace = trace } ≡ block.info = cc in
        subst (λ (i : AllocationInfo). list_any (same_info i)
        (with_new same_info (infos said) (record { size = size; trace = trace }))
        ≡ true) same (added-held
        (infos said) (record { size = size; trace = trace }))
    by false e = stays-held (infos said) (record { size = size; trace = trace }) block.info (old ptr block e)
blocks-held said (raw_free_line named) old ptr block is =
    ap (λ (l : List AllocationInfo). list_any (same_info block.info) l) (infos-same said (raw_free_line named) refl)
    ∙ by (named == ptr) (sym (held-push said (raw_free_line named) ptr) ∙ is)
  where
    by : (b : Bool) → cond {A = Option RawBlock} b None (held said ptr) ≡ Some block
        → list_any (same_info block.info) (infos said) ≡ true
    by true e = absurd (cc)
    by false e = old ptr block e
blocks-held said c old ptr block is =
    ap (λ (l : List AllocationInfo). list_any (same_info block.info) l) (infos-same said c refl)
    ∙ old ptr block (sym (held-push said c ptr) ∙ is)

-- the events with those of one more line
pub events-push : (symbols : List Symbol) (said : List Content) (c : Content)
    → interpreted_events symbols (said ++ c ∷ [])
    ≡ interpreted_events symbols said
    ++ gathered event_behind (interpreted_said symbols said) (told_after symbols said c)
unfolding interpreted_events
events-push symbols said c =
    ap events_said (interpreted-push symbols said c)
    ∙ events-append (interpreted_said symbols said) (told_after symbols said c)

-- a sum over blocks with that of one more line
sum-picked : (pick : List Content → Content → Option RawBlock) (w : RawBlock → ℕ) (said : List Content) (c : Content)
    → sum_by w (gathered pick [] (said ++ c ∷ []))
    ≡ sum_by w (gathered pick [] said) + sum_by w (option_to_list (pick said c))
sum-picked pick w said c =
    ap (λ (l : List RawBlock). sum_by w l) (gathered-push pick [] said c)
    ∙ sum_by-append w (gathered pick [] said) (option_to_list (pick said c))

pub told-step : (symbols : List Symbol) (said : List Content) (c : Content) → IsRaw c → AreTold symbols said
    → AreTold symbols (said ++ c ∷ [])
unfolding interpreted_events blocks freed
told-step symbols said c raw are =
    let more = adds symbols said c raw are in
    let push = interpreted-push symbols said c in
    let summed = λ (f : Event → ℕ).
    ap (λ (l : List Event). sum_by f l) (events-push symbols said c)
    ∙ sum_by-append f (interpreted_events symbols said)
    (gathered event_behind (interpreted_said symbols said) (told_after symbols said c)) in
    record {
      infos_are =
          ap (λ (l : List Content). lists.infos l) push
          ∙ infos-append (interpreted_said symbols said) (told_after symbols said c)
          ∙ ap (λ (l : List HeldInfo). l ++ lists.infos (told_after symbols said c)) are.infos_are
          ∙ ap (λ (l : List HeldInfo). map held_of (infos said) ++ l) more.more_infos
          ∙ sym (map-append held_of (infos said) (new_in (infos said) (infos (said ++ c ∷ []))))
          ∙ ap (λ (l : List AllocationInfo). map held_of l) (grows symbols said c);
      block_infos = blocks-held said c are.block_infos;
      allocs = λ f w counts.
          omega (arith, summed f, sum-picked block_in w said c, are.allocs f w counts, more.allocs f w counts);
      frees = λ f w counts.
          omega (arith, summed f, sum-picked freed_by w said c, are.frees f w counts, more.frees f w counts);
    }
  where
    grows : (symbols : List Symbol) (said : List Content) (c : Content)
        → infos said ++ new_in (infos said) (infos (said ++ c ∷ [])) ≡ infos (said ++ c ∷ [])
    grows symbols said c =
        ap (λ (l : List AllocationInfo). infos said ++ new_in (infos said) l) (infos-push said c) ∙ by (info_in c)
        ∙ sym (infos-push said c)
      where
        by : (o : Option AllocationInfo)
            → infos said ++ new_in (infos said) (with_all same_info (infos said) (option_to_list o))
            ≡ with_all same_info (infos said) (option_to_list o)
        by None = ap (λ (l : List AllocationInfo). infos said ++ l) (drop-length (infos said)) ∙ append-nil (infos said)
        by (Some info) = new-infos (infos said) info

pub told-none : (symbols : List Symbol) → AreTold symbols []
unfolding interpreted_events interpreted_said events_said infos blocks freed held
told-none symbols =
    record {
      infos_are = refl;
      block_infos = λ ptr block is. absurd (cc);
      allocs = λ f w counts. refl;
      frees = λ f w counts. refl;
    }
