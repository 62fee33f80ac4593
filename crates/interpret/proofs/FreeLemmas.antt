-- No free of the interpreted lines is of an info without a live block.
use Rattle.std.proofs.Common.{◌≡◌, ℕ, ◌+◌, ◌^◌, ◌<◌, ◌≤◌, Bool, true, false, cond, List, [], ◌∷◌, ◌++◌, map, Option}
use Rattle.std.proofs.Common.{Some, None, refl, sym, ap, ◌∙◌, arith, append_assoc, append-nil, subst, true≢false}
use Rattle.std.specs.Prelude.{◌==◌, count_by, nat_lt, slice_get, sum_by}
use Rattle.std.specs.List.{AllByRecursion, list_any}
use Rattle.std.specs.Option.{option_to_list}
use Rattle.std.proofs.lemmas.Bool.{eq-eqb, eqb-true, false_from_ne_true}
use Rattle.std.proofs.lemmas.Bool.Decides.{nat_tests}
use Rattle.std.proofs.lemmas.List.Sums.{sum_by-append, sum_by-cons}
use Rattle.hp_num.specs.Hexadecimal.{hexadecimal}
use Rattle.hp_num.specs.ParsedHex.{parsed_hex}
use Rattle.ht_lines.specs.Content.{Content, string_line, instruction_line, info_line, allocation_line, free_line}
use Rattle.ht_lines.specs.Content.{clear_line, module_line, node_line, clock_line, raw_allocation_line, raw_free_line}
use Rattle.ht_trace.specs.Gathered.{gathered}
use Rattle.ht_trace.specs.TraceEvents.{events}
use Rattle.live_ledger.specs.declared.event.Event.{Event}
use Rattle.live_ledger.specs.declared.event.Event.TheVariants.{Alloc, Free, Tick}
use Rattle.live_ledger.specs.declared.event.EventFault.{EventFault}
use Rattle.live_ledger.specs.declared.event.EventFault.TheVariants.{FreeOfNothing}
use Rattle.live_ledger.specs.Faults.{fault_of}
use Rattle.live_ledger.specs.InfoBlocks.{allocs_of, frees_of, is_alloc_of, is_free_of}
use Rattle.live_ledger.specs.LiveBytes.{alloc_size, allocated_bytes}
use Rattle.interpret.specs.declared.infos.AllocationInfo.{AllocationInfo}
use Rattle.interpret.specs.FirstAppearances.{with_new}
use Rattle.interpret.specs.InterpretedSaid.{events_said, interpreted_events, interpreted_said, told_after}
use Rattle.interpret.specs.InterpretedTrace.{AreInterpretable, free_fault, interpreted_trace}
use Rattle.interpret.specs.RawBlocks.{RawBlock, freed_info, held}
use Rattle.interpret.specs.RawContents.{IsRaw, contents}
use Rattle.interpret.specs.RawLedger.{blocks, freed, live_blocks}
use Rattle.interpret.specs.RawTables.{info_number, infos, same_info}
use Rattle.interpret.specs.SymbolLine.{Symbol}
use Rattle.interpret.proofs.FirstLemmas.{place-within}
use Rattle.ht_trace.proofs.Laws.{gathered-push}
use Rattle.interpret.proofs.GrowthLemmas.{infos-push}
use Rattle.interpret.proofs.KeepLemmas.{Holds, holds-step, none-hold}
use Rattle.interpret.proofs.LedgerLemmas.{all-append, alloc-event, event_behind, events-push, free-event, info-at}
use Rattle.interpret.proofs.LedgerLemmas.{infos-same, node-quiet, now-held, quiet-events, stays-held}
use Rattle.interpret.proofs.PointerLemmas.{number-stays}
use Rattle.interpret.proofs.RawLedgerLemmas.{frees-once, some-is}
use Rattle.interpret.proofs.ReadAgainLemmas.{events-again, whole-stage}
use Rattle.interpret.proofs.RepeatLemmas.{infos-decide}

-- an event's number is that of its stack and size
record HasNumber (all : List AllocationInfo) (n stack size : ℕ) : Type 0 where
  there : list_any (same_info (record { size = size; trace = stack })) all ≡ true
  number : n ≡ info_number all (record { size = size; trace = stack })

IsNumbered : List AllocationInfo → Event → Type 0
IsNumbered all (Alloc n stack size) = HasNumber all n stack size
IsNumbered all (Free n stack size) = HasNumber all n stack size
IsNumbered all (Tick ms) = Unit {0}

number-grows : (all : List AllocationInfo) (info : AllocationInfo) (n stack size : ℕ) → HasNumber all n stack size
    → HasNumber (with_new same_info all info) n stack size
number-grows all info n stack size has = record {
  there = stays-held all info (record { size = size; trace = stack }) has.there;
  number =
      has.number
      ∙ sym (number-stays all info (record { size = size; trace = stack })
      (place-within (same_info (record { size = size; trace = stack })) all has.there));
}

numbered-grow : (all : List AllocationInfo) (info : AllocationInfo) (es : List Event)
    → AllByRecursion (IsNumbered all) es → AllByRecursion (IsNumbered (with_new same_info all info)) es
unfolding IsNumbered
numbered-grow all info [] each = tt
numbered-grow all info (Alloc n stack size ∷ es) each =
    (number-grows all info n stack size each.0, numbered-grow all info es each.1)
numbered-grow all info (Free n stack size ∷ es) each =
    (number-grows all info n stack size each.0, numbered-grow all info es each.1)
numbered-grow all info (Tick ms ∷ es) each = (tt, numbered-grow all info es each.1)

-- so the number of an info counts the events of its stack and size
same-number : (all : List AllocationInfo) (info : AllocationInfo) (n stack size : ℕ)
    → list_any (same_info info) all ≡ true → HasNumber all n stack size
    → (n == info_number all info) ≡ same_info (record { size = size; trace = stack }) info
same-number all info n stack size held has = by (same_info (record { size = size; trace = stack }) info) refl
  where
    by : (b : Bool) → same_info (record { size = size; trace = stack }) info ≡ b → (n == info_number all info) ≡ b
    by true is =
        eq-eqb n (info_number all info)
        (has.number
        ∙ ap (λ (i : AllocationInfo). info_number all i)
        ((infos-decide (record { size = size; trace = stack }) info).0 is))
    by false is = false_from_ne_true (n == info_number all info) (λ same.
        let one = info-at all (record { size = size; trace = stack }) has.there in
        let two = info-at all info held in
        let equal : record { size = size; trace = stack } ≡ info =
        some-is (record { size = size; trace = stack }) info
        (sym one
        ∙ (ap (λ (k : ℕ). slice_get all k) (sym has.number ∙ eqb-true n (info_number all info) same) ∙ two)) in
        true≢false (sym ((infos-decide (record { size = size; trace = stack }) info).1 equal) ∙ is))

-- what an event counts for by its stack and size alone
allocs-by : AllocationInfo → Event → ℕ
allocs-by info (Alloc n stack size) = cond (same_info (record { size = size; trace = stack }) info) 1 0
allocs-by info (Free n stack size) = 0
allocs-by info (Tick ms) = 0

frees-by : AllocationInfo → Event → ℕ
frees-by info (Alloc n stack size) = 0
frees-by info (Free n stack size) = cond (same_info (record { size = size; trace = stack }) info) 1 0
frees-by info (Tick ms) = 0

-- counts by the number of an info are those by its stack and size
counts-same :
    (is_of : ℕ → Event → Bool) (by : Event → ℕ) (all : List AllocationInfo) (number : ℕ) (es : List Event)
    → ((e : Event) → IsNumbered all e → cond {A = ℕ} (is_of number e) 1 0 ≡ by e)
    → AllByRecursion (IsNumbered all) es
    → count_by (is_of number) es ≡ sum_by by es
counts-same is_of by all number [] one each = refl
counts-same is_of by all number (e ∷ es) one each =
    sum_by-cons (λ event. cond {A = ℕ} (is_of number event) 1 0) e es
    ∙ (ap (λ (k : ℕ). k + count_by (is_of number) es) (one e each.0)
    ∙ ap (λ (k : ℕ). by e + k) (counts-same is_of by all number es one each.1) ∙ sym (sum_by-cons by e es))

counted-same : (all : List AllocationInfo) (info : AllocationInfo) (es : List Event)
    → list_any (same_info info) all ≡ true → AllByRecursion (IsNumbered all) es
    → (allocs_of (info_number all info) es ≡ sum_by (allocs-by info) es)
    × (frees_of (info_number all info) es ≡ sum_by (frees-by info) es)
unfolding IsNumbered allocs-by frees-by
counted-same all info es held each = (
  counts-same is_alloc_of (allocs-by info) all (info_number all info) es alloc each,
  counts-same is_free_of (frees-by info) all (info_number all info) es free each,
)
  where
    alloc : (e : Event) → IsNumbered all e
        → cond {A = ℕ} (is_alloc_of (info_number all info) e) 1 0 ≡ allocs-by info e
    alloc (Alloc n stack size) has =
        ap (λ (b : Bool). cond {A = ℕ} b 1 0) (same-number all info n stack size held has)
    alloc (Free n stack size) has = refl
    alloc (Tick ms) has = refl

    free : (e : Event) → IsNumbered all e → cond {A = ℕ} (is_free_of (info_number all info) e) 1 0 ≡ frees-by info e
    free (Alloc n stack size) has = refl
    free (Free n stack size) has =
        ap (λ (b : Bool). cond {A = ℕ} b 1 0) (same-number all info n stack size held has)
    free (Tick ms) has = refl

-- a held block's info has more allocations than frees
more-allocs : (symbols : List Symbol) (said : List Content) (ptr : ℕ) (block : RawBlock) → held said ptr ≡ Some block
    → Holds symbols said → AllByRecursion (IsNumbered (infos said)) (interpreted_events symbols said)
    → frees_of (info_number (infos said) block.info) (interpreted_events symbols said)
    < allocs_of (info_number (infos said) block.info) (interpreted_events symbols said)
unfolding live_blocks allocs-by frees-by
more-allocs symbols said ptr block here kept each =
    let info = block.info in
    let w = λ (b : RawBlock). cond {A = ℕ} (same_info b.info block.info) 1 0 in
    let there = kept.are_told.block_infos ptr block here in
    let counts = counted-same (infos said) info (interpreted_events symbols said) there each in
    let a =
    counts.0
    ∙ kept.are_told.allocs (allocs-by info) w
    (record { alloc = λ n b. refl; free = λ n stack size. refl; tick = λ ms. refl }) in
    let b =
    counts.1
    ∙ kept.are_told.frees (frees-by info) w
    (record { alloc = λ n stack size. refl; free = λ n b. refl; tick = λ ms. refl }) in
    let balance = kept.are_held.balance w in
    let once =
    frees-once w (freed said) (blocks said) block (kept.are_held.once ptr block here)
    (kept.are_held.unfreed ptr block here) in
    let own : w block ≡ 1 = ap (λ (b : Bool). cond {A = ℕ} b 1 0) ((infos-decide block.info block.info).1 refl) in
    omega (arith, a, b, balance, once, own)

-- the events so far: each has the number of its info, and no free is of nothing
record AreFine (symbols : List Symbol) (said : List Content) : Type 0 where
  each : AllByRecursion (IsNumbered (infos said)) (interpreted_events symbols said)
  no_fault : gathered free_fault [] (interpreted_events symbols said) ≡ []

-- no event more
fine-same : (symbols : List Symbol) (said : List Content) (c : Content)
    → gathered event_behind (interpreted_said symbols said) (told_after symbols said c) ≡ []
    → infos (said ++ c ∷ []) ≡ infos said → AreFine symbols said → AreFine symbols (said ++ c ∷ [])
fine-same symbols said c none same fine =
    let now : interpreted_events symbols (said ++ c ∷ []) ≡ interpreted_events symbols said =
    events-push symbols said c
    ∙ (ap (λ (l : List Event). interpreted_events symbols said ++ l) none
    ∙ append-nil (interpreted_events symbols said)) in
    record {
      each =
          subst (λ (l : List AllocationInfo). AllByRecursion (IsNumbered l)
          (interpreted_events symbols (said ++ c ∷ [])))
          (sym same) (subst (λ (l : List Event). AllByRecursion (IsNumbered (infos said)) l) (sym now) fine.each);
      no_fault = ap (λ (l : List Event). gathered free_fault [] l) now ∙ fine.no_fault;
    }

-- one event more
fine-one : (symbols : List Symbol) (said : List Content) (c : Content) (event : Event)
    → gathered event_behind (interpreted_said symbols said) (told_after symbols said c) ≡ event ∷ []
    → AllByRecursion (IsNumbered (infos (said ++ c ∷ []))) (interpreted_events symbols said)
    → IsNumbered (infos (said ++ c ∷ [])) event → free_fault (interpreted_events symbols said) event ≡ None
    → AreFine symbols said → AreFine symbols (said ++ c ∷ [])
fine-one symbols said c event one old here good fine =
    let now : interpreted_events symbols (said ++ c ∷ []) ≡ interpreted_events symbols said ++ event ∷ [] =
    events-push symbols said c ∙ ap (λ (l : List Event). interpreted_events symbols said ++ l) one in
    record {
      each =
          subst (λ (l : List Event). AllByRecursion (IsNumbered (infos (said ++ c ∷ []))) l) (sym now)
          (all-append (IsNumbered (infos (said ++ c ∷ []))) (interpreted_events symbols said) (event ∷ []) old
          (here, tt));
      no_fault =
          ap (λ (l : List Event). gathered free_fault [] l) now
          ∙ (gathered-push free_fault [] (interpreted_events symbols said) event
          ∙ (ap
          (λ (o : Option EventFault). gathered free_fault [] (interpreted_events symbols said) ++ option_to_list o) good
          ∙ (append-nil (gathered free_fault [] (interpreted_events symbols said)) ∙ fine.no_fault)));
    }

fine-free : (symbols : List Symbol) (said : List Content) (ptr : ℕ) (o : Option RawBlock) → held said ptr ≡ o
    → Holds symbols said → AreFine symbols said → AreFine symbols (said ++ raw_free_line ptr ∷ [])
unfolding IsNumbered
fine-free symbols said ptr None here kept fine =
    let lines =
    ap (λ (o : Option RawBlock). gathered event_behind (interpreted_said symbols said)
    (map free_line (option_to_list (freed_info (infos said) o)))) here in
    fine-same symbols said (raw_free_line ptr) lines (infos-same said (raw_free_line ptr) refl) fine
fine-free symbols said ptr (Some block) here kept fine =
    let same = infos-same said (raw_free_line ptr) refl in
    let more = more-allocs symbols said ptr block here kept fine.each in
    let other : (allocs_of (info_number (infos said) block.info) (interpreted_events symbols said) == frees_of
    (info_number (infos said) block.info) (interpreted_events symbols said))
    ≡ false = grind (arith, nat_tests, more) in
    fine-one symbols said (raw_free_line ptr)
    (Free (info_number (infos said) block.info) block.info.trace block.info.size)
    (free-event symbols said ptr block here kept.are_told)
    (subst (λ (l : List AllocationInfo). AllByRecursion (IsNumbered l) (interpreted_events symbols said)) (sym same)
    fine.each)
    (subst (λ (l : List AllocationInfo). HasNumber l (info_number (infos said) block.info) block.info.trace
    block.info.size) (sym
    same) (record { there = kept.are_told.block_infos ptr block here; number = refl }))
    (ap (λ (b : Bool). cond {A = Option EventFault} b (Some FreeOfNothing) None) other) fine

fine-alloc : (symbols : List Symbol) (said : List Content) (size trace ptr : ℕ) → Holds symbols said
    → AreFine symbols said → AreFine symbols (said ++ raw_allocation_line size trace ptr ∷ [])
unfolding IsNumbered
fine-alloc symbols said size trace ptr kept fine =
    let c = raw_allocation_line size trace ptr in
    fine-one symbols said c
    (Alloc (info_number (infos (said ++ c ∷ [])) (record { size = size; trace = trace })) trace size)
    (alloc-event symbols said size trace ptr kept.are_told)
    (subst (λ (l : List AllocationInfo). AllByRecursion (IsNumbered l) (interpreted_events symbols said))
    (sym (infos-push said c))
    (numbered-grow (infos said) (record { size = size; trace = trace }) (interpreted_events symbols said) fine.each))
    (record { there = now-held said size trace ptr; number = refl }) refl fine

fine-step : (symbols : List Symbol) (said : List Content) (c : Content) → IsRaw c → Holds symbols said
    → AreFine symbols said → AreFine symbols (said ++ c ∷ [])
unfolding IsNumbered
fine-step symbols said (string_line bytes) raw kept fine = absurd raw
fine-step symbols said (instruction_line ip module_string frames) raw kept fine = absurd raw
fine-step symbols said (info_line size trace) raw kept fine = absurd raw
fine-step symbols said (allocation_line info) raw kept fine = absurd raw
fine-step symbols said (free_line info) raw kept fine = absurd raw
fine-step symbols said (raw_allocation_line size trace ptr) raw kept fine =
    fine-alloc symbols said size trace ptr kept fine
fine-step symbols said (raw_free_line ptr) raw kept fine = fine-free symbols said ptr (held said ptr) refl kept fine
fine-step symbols said (node_line ip parent) raw kept fine =
    fine-same symbols said (node_line ip parent)
    (quiet-events (interpreted_said symbols said) (told_after symbols said (node_line ip parent))
    (node-quiet symbols said ip parent))
    (infos-same said (node_line ip parent) refl) fine
fine-step symbols said (clock_line ms) raw kept fine =
    fine-one symbols said (clock_line ms) (Tick ms) refl
    (subst (λ (l : List AllocationInfo). AllByRecursion (IsNumbered l) (interpreted_events symbols said))
    (sym (infos-same said (clock_line ms) refl)) fine.each)
    tt refl fine
fine-step symbols said clear_line raw kept fine =
    fine-same symbols said clear_line refl (infos-same said clear_line refl) fine
fine-step symbols said (module_line name start ranges) raw kept fine =
    fine-same symbols said (module_line name start ranges) refl (infos-same said (module_line name start ranges) refl)
    fine
fine-step symbols said c raw kept fine = fine-same symbols said c refl (infos-same said c refl) fine

fine-steps : (symbols : List Symbol) (earlier said : List Content) → Holds symbols earlier → AreFine symbols earlier
    → AllByRecursion IsRaw said → AreFine symbols (earlier ++ said)
fine-steps symbols earlier [] kept fine raw =
    subst (λ (l : List Content). AreFine symbols l) (sym (append-nil earlier)) fine
fine-steps symbols earlier (c ∷ said) kept fine raw =
    subst (λ (l : List Content). AreFine symbols l) (append_assoc earlier (c ∷ []) said)
    (fine-steps symbols (earlier ++ c ∷ []) said (holds-step symbols earlier c raw.0 kept)
    (fine-step symbols earlier c raw.0 kept fine) raw.1)

fine-none : (symbols : List Symbol) → AreFine symbols []
unfolding interpreted_events interpreted_said events_said
fine-none symbols = record { each = tt; no_fault = refl }

-- where the sizes fit, neither has an allocation a fault
all-fit : (earlier es : List Event) → allocated_bytes earlier + allocated_bytes es ≤ 2 ^ 62
    → gathered free_fault earlier es ≡ [] → gathered fault_of earlier es ≡ []
all-fit earlier [] few none = refl
all-fit earlier (Alloc n stack size ∷ es) few none =
    let cons = sum_by-cons alloc_size (Alloc n stack size) es in
    let push = sum_by-append alloc_size earlier (Alloc n stack size ∷ []) in
    let last : sum_by alloc_size (Alloc n stack size ∷ []) ≡ size = omega arith in
    let fits : nat_lt (2 ^ 62) (allocated_bytes earlier + size) ≡ false = grind (arith, nat_tests, few, cons) in
    rw fits (all-fit (earlier ++ Alloc n stack size ∷ []) es (omega (arith, few, cons, push, last)) none)
all-fit earlier (Tick ms ∷ es) few none =
    let cons = sum_by-cons alloc_size (Tick ms) es in
    let push = sum_by-append alloc_size earlier (Tick ms ∷ []) in
    let last : sum_by alloc_size (Tick ms ∷ []) ≡ 0 = omega arith in
    all-fit (earlier ++ Tick ms ∷ []) es (omega (arith, few, cons, push, last)) none
all-fit earlier (Free n stack size ∷ es) few none =
    by (fault_of earlier (Free n stack size)) none (λ rest. all-fit (earlier ++ Free n stack size ∷ []) es next rest)
  where
    next : allocated_bytes (earlier ++ Free n stack size ∷ []) + allocated_bytes es ≤ 2 ^ 62
    next =
        let cons = sum_by-cons alloc_size (Free n stack size) es in
        let push = sum_by-append alloc_size earlier (Free n stack size ∷ []) in
        let last : sum_by alloc_size (Free n stack size ∷ []) ≡ 0 = omega arith in
        omega (arith, few, cons, push, last)

    by : (o : Option EventFault) → option_to_list o ++ gathered free_fault (earlier ++ Free n stack size ∷ []) es ≡ []
        → (gathered free_fault (earlier ++ Free n stack size ∷ []) es ≡ []
        → gathered fault_of (earlier ++ Free n stack size ∷ []) es ≡ [])
        → option_to_list o ++ gathered fault_of (earlier ++ Free n stack size ∷ []) es ≡ []
    by None none rest = rest none
    by (Some fault) none rest = absurd (cc)

module _ (back : (n : ℕ) → n < 2 ^ 64 → parsed_hex (hexadecimal n) ≡ Some n) where
  pub free-fault-again : (symbols : List Symbol) (lines : List (List ℕ)) → AreInterpretable symbols lines
      → gathered free_fault [] (events (interpreted_trace symbols lines)) ≡ []
  free-fault-again symbols lines are =
      ap (λ (l : List Event). gathered free_fault [] l) (events-again back symbols lines are)
      ∙ (fine-steps symbols [] (contents lines) (none-hold symbols) (fine-none symbols)
      (whole-stage back symbols lines are).raw).no_fault

  pub event-fault-again : (symbols : List Symbol) (lines : List (List ℕ)) → AreInterpretable symbols lines
      → allocated_bytes (events (interpreted_trace symbols lines)) ≤ 2 ^ 62
      → gathered fault_of [] (events (interpreted_trace symbols lines)) ≡ []
  event-fault-again symbols lines are few =
      all-fit [] (events (interpreted_trace symbols lines)) (omega (arith, few)) (free-fault-again symbols lines are)
