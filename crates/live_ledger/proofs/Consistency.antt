-- How an event keeps the ledger's fields consistent.
use Rattle.std.proofs.Common.{◌≡◌, ◌≢◌, ℕ, ◌+◌, ◌-◌, ◌^◌, ◌<◌, ◌≤◌, List, [], ◌∷◌, ◌++◌, length, set, map, true, false}
use Rattle.std.proofs.Common.{refl, inl, inr, sym, ap, subst, ◌∙◌, arith}
use Rattle.std.specs.Prelude.{sum_by, slice_index}
use Rattle.std.specs.List.{All}
use Rattle.std.proofs.lemmas.Bool.Decides.{eqb_tells}
use Rattle.std.proofs.lemmas.List.{length-set, length_push}
use Rattle.std.proofs.lemmas.List.Elements.{All-push, All-weaker}
use Rattle.std.proofs.lemmas.List.Sums.{sum_by_push}
use Rattle.std.proofs.Math.Seq.{map-set_same}
use Rattle.std.proofs.lemmas.List.{map-append}
use Rattle.live_ledger.specs.declared.totals_ledger.InfoEntry.{InfoEntry}
use Rattle.live_ledger.specs.declared.sums.Sums.{Sums}
use Rattle.live_ledger.specs.Consistent.{AreConsistent, AreKept, AreSumsOf, Balances, any_entry, blocks_of}
use Rattle.live_ledger.specs.Consistent.{blocks_where, calls_where, is_of, stack_of, sums_at}
use Rattle.live_ledger.specs.Sums.{no_sums, with_alloc, with_free}
use Rattle.live_ledger.specs.TotalsState.{one_fewer, one_more}
use Rattle.live_ledger.proofs.Entries.{IsEntry, IsOwn, entry-in_sum, number-at, own-at, own-in_total, own-others}
use Rattle.live_ledger.proofs.Entries.{own-push, own-written, total-after}
use Rattle.live_ledger.proofs.Balances.{balance-alloc, balance-free, balance-live, balance-others, balance-push}

-- the sums of all stacks after those of one are written
sums-written :
    (sums new : Sums) (stacks : List Sums) (stack : ℕ) (own written : Sums)
    → AreSumsOf sums stacks
    → IsOwn stacks stack own
    → written.calls + sums.calls ≡ own.calls + new.calls
    → written.allocated + sums.allocated ≡ own.allocated + new.allocated
    → written.frees + sums.frees ≡ own.frees + new.frees
    → written.freed + sums.freed ≡ own.freed + new.freed
    → written.temporary + sums.temporary ≡ own.temporary + new.temporary
    → AreSumsOf new (set stacks stack written)
sums-written sums new stacks stack own written old o calls allocated frees freed temporary = record {
  calls = omega (arith, total-after (λ (s : Sums). s.calls) stacks stack own written o, old.calls, calls);
  allocated =
      omega (arith, total-after (λ (s : Sums). s.allocated) stacks stack own written o, old.allocated, allocated);
  frees = omega (arith, total-after (λ (s : Sums). s.frees) stacks stack own written o, old.frees, frees);
  freed = omega (arith, total-after (λ (s : Sums). s.freed) stacks stack own written o, old.freed, freed);
  temporary =
      omega (arith, total-after (λ (s : Sums). s.temporary) stacks stack own written o, old.temporary, temporary);
}

-- the stacks of the infos are held after one entry is written
held-written :
    (count : ℕ) (infos : List InfoEntry) (i stack size : ℕ) (entry written : InfoEntry)
    → All (λ held. held < count) (map stack_of infos)
    → IsEntry infos i stack size entry
    → written.stack ≡ entry.stack
    → All (λ held. held < count) (map stack_of (set infos i written))
held-written count infos i stack size entry written old e same =
    let stacks_are : map stack_of (set infos i written) ≡ map stack_of infos =
    map-set_same stack_of infos i written entry (same ∙ ap stack_of e.is) in
    subst (λ (xs : List ℕ). All (λ (held : ℕ). held < count) xs) (sym stacks_are) old

-- the sums of each stack balance after one stack's sums are written
each-written :
    (stacks : List Sums) (before after : List InfoEntry) (stack : ℕ) (own written : Sums)
    → IsOwn stacks stack own
    → ((n : ℕ) → Balances (sums_at stacks n) (is_of n) before)
    → (Balances own (is_of stack) before → Balances written (is_of stack) after)
    → ((n : ℕ) → n ≢ stack → Balances (sums_at stacks n) (is_of n) before → Balances (sums_at stacks n) (is_of n) after)
    → (n : ℕ)
    → Balances (sums_at (set stacks stack written) n) (is_of n) after
each-written stacks before after stack own written o old here others n =
    elim (eqb_tells n stack) [
      | inl same ↦
          let was : Balances own (is_of stack) before =
          subst (λ (s : Sums). Balances s (is_of stack) before) (sym (own-at stacks stack own o)) (old stack) in
          let now : Balances (sums_at (set stacks stack written) stack) (is_of stack) after =
          subst (λ (s : Sums). Balances s (is_of stack) after) (sym (own-written stacks stack own written o))
          (here was) in
          subst (λ (m : ℕ). Balances (sums_at (set stacks stack written) m) (is_of m) after) (sym same.1) now
      | inr apart ↦
          subst (λ (s : Sums). Balances s (is_of n) after) (sym (own-others stacks stack n written apart.1))
          (others n apart.1 (old n))
    ]

-- whether an entry is of another stack
is_of-other : (n stack : ℕ) (entry : InfoEntry) → entry.stack ≡ stack → n ≢ stack → is_of n entry ≡ false
is_of-other n stack entry is apart =
    elim (eqb_tells entry.stack n) [
      | inl same ↦ absurd (apart (sym same.1 ∙ is))
      | inr other ↦ other.0
    ]

-- an entry is of its stack
is_of-own : (stack : ℕ) (entry : InfoEntry) → entry.stack ≡ stack → is_of stack entry ≡ true
is_of-own stack entry is =
    elim (eqb_tells entry.stack stack) [
      | inl same ↦ same.0
      | inr other ↦ absurd (other.1 is)
    ]

-- the fields of a ledger of totals are kept over an allocation
pub kept-alloc :
    (count : ℕ) (infos : List InfoEntry) (sums : Sums) (i stack size : ℕ) (entry : InfoEntry)
    → AreKept count infos sums
    → IsEntry infos i stack size entry
    → sums.allocated + size ≤ 2 ^ 62
    → sums.calls + sums.frees < 2 ^ 32
    → AreKept count (set infos i (one_more entry)) (with_alloc sums size)
kept-alloc count infos sums i stack size entry old e fits few = record {
  stack_0 = old.stack_0;
  stacks_within = old.stacks_within;
  infos_within = omega (arith, length-set infos i (one_more entry), old.infos_within);
  held = held-written count infos i stack size entry (one_more entry) old.held e refl;
  whole = balance-alloc sums any_entry infos i stack size entry old.whole e refl refl;
  allocated_within = fits;
  events_within = omega arith;
}

-- and over a free
pub kept-free :
    (count : ℕ) (infos : List InfoEntry) (sums : Sums) (i stack size ended : ℕ) (entry : InfoEntry)
    → AreKept count infos sums
    → IsEntry infos i stack size entry
    → 0 < entry.blocks
    → ended ≤ 1
    → sums.calls + sums.frees < 2 ^ 32
    → AreKept count (set infos i (one_fewer entry)) (with_free sums size ended)
kept-free count infos sums i stack size ended entry old e live few room = record {
  stack_0 = old.stack_0;
  stacks_within = old.stacks_within;
  infos_within = omega (arith, length-set infos i (one_fewer entry), old.infos_within);
  held = held-written count infos i stack size entry (one_fewer entry) old.held e refl;
  whole = balance-free sums any_entry infos i stack size ended entry old.whole e live few refl refl;
  allocated_within = old.allocated_within;
  events_within = omega arith;
}

-- and with one more stack
pub kept-stack : (count : ℕ) (infos : List InfoEntry) (sums : Sums) → AreKept count infos sums → count < 2 ^ 32 - 1
    → AreKept (count + 1) infos sums
kept-stack count infos sums old room = record {
  stack_0 = omega arith;
  stacks_within = omega (arith, room);
  infos_within = old.infos_within;
  held =
      All-weaker (λ held. held < count) (λ held. held < count + 1) (λ held within. omega (arith, within))
      (map stack_of infos) old.held;
  whole = old.whole;
  allocated_within = old.allocated_within;
  events_within = old.events_within;
}

-- and with one more info
pub kept-info :
    (count : ℕ) (infos : List InfoEntry) (sums : Sums) (entry : InfoEntry)
    → AreKept count infos sums
    → length infos < 2 ^ 32 - 1
    → entry.stack < count
    → entry.blocks ≡ 0
    → entry.calls ≡ 0
    → AreKept count (infos ++ entry ∷ []) sums
kept-info count infos sums entry old room held no_blocks no_calls = record {
  stack_0 = old.stack_0;
  stacks_within = old.stacks_within;
  infos_within = omega (arith, length_push infos entry, room);
  held =
      subst (λ (xs : List ℕ). All (λ (held : ℕ). held < count) xs) (sym (map-append stack_of infos (entry ∷ [])))
      (All-push (λ held. held < count) (map stack_of infos) entry.stack old.held held);
  whole = balance-push sums any_entry infos entry no_blocks no_calls old.whole;
  allocated_within = old.allocated_within;
  events_within = old.events_within;
}

-- those of a ledger with figures of stacks are consistent over an allocation
pub consistent-alloc :
    (count : ℕ) (stacks : List Sums) (infos : List InfoEntry) (sums : Sums) (i stack size : ℕ) (entry : InfoEntry)
    (own : Sums)
    → AreConsistent count stacks infos sums
    → AreKept count (set infos i (one_more entry)) (with_alloc sums size)
    → IsEntry infos i stack size entry
    → IsOwn stacks stack own
    → AreConsistent count (set stacks stack (with_alloc own size)) (set infos i (one_more entry)) (with_alloc sums size)
consistent-alloc count stacks infos sums i stack size entry own old kept e o = record {
  kept = kept;
  count_is = old.count_is ∙ sym (length-set stacks stack (with_alloc own size));
  sums_of =
      sums-written sums (with_alloc sums size) stacks stack own (with_alloc own size) old.sums_of o (omega arith)
      (omega arith) (omega arith) (omega arith) (omega arith);
  each_stack = each-written stacks infos (set infos i (one_more entry)) stack own (with_alloc own size) o old.each_stack
      (λ was. balance-alloc own (is_of stack) infos i stack size entry was e (is_of-own stack entry e.stack_is)
      (is_of-own stack entry e.stack_is))
      (λ n apart was. balance-others (sums_at stacks n) (is_of n) infos i stack size entry (one_more entry) was e
      (is_of-other n stack entry e.stack_is apart) (is_of-other n stack entry e.stack_is apart));
}

-- and over a free
pub consistent-free :
    (count : ℕ) (stacks : List Sums) (infos : List InfoEntry) (sums : Sums) (i stack size ended : ℕ) (entry : InfoEntry)
    (own : Sums)
    → AreConsistent count stacks infos sums
    → AreKept count (set infos i (one_fewer entry)) (with_free sums size ended)
    → IsEntry infos i stack size entry
    → IsOwn stacks stack own
    → 0 < entry.blocks
    → ended ≤ 1
    → AreConsistent count (set stacks stack (with_free own size ended)) (set infos i (one_fewer entry))
    (with_free sums size ended)
consistent-free count stacks infos sums i stack size ended entry own old kept e o live few = record {
  kept = kept;
  count_is = old.count_is ∙ sym (length-set stacks stack (with_free own size ended));
  sums_of =
      sums-written sums (with_free sums size ended) stacks stack own (with_free own size ended) old.sums_of o
      (omega arith) (omega arith) (omega arith) (omega arith) (omega arith);
  each_stack =
      each-written stacks infos (set infos i (one_fewer entry)) stack own (with_free own size ended) o old.each_stack
      (λ was. balance-free own (is_of stack) infos i stack size ended entry was e live few
      (is_of-own stack entry e.stack_is) (is_of-own stack entry e.stack_is))
      (λ n apart was. balance-others (sums_at stacks n) (is_of n) infos i stack size entry (one_fewer entry) was e
      (is_of-other n stack entry e.stack_is apart) (is_of-other n stack entry e.stack_is apart));
}

-- and with one more stack
pub consistent-stack :
    (count : ℕ) (stacks : List Sums) (infos : List InfoEntry) (sums : Sums)
    → AreConsistent count stacks infos sums
    → AreKept (count + 1) infos sums
    → AreConsistent (count + 1) (stacks ++ no_sums ∷ []) infos sums
consistent-stack count stacks infos sums old kept = record {
  kept = kept;
  count_is = omega (arith, length_push stacks no_sums, old.count_is);
  sums_of = record {
    calls = omega (arith, sum_by_push (λ (s : Sums). s.calls) stacks no_sums, old.sums_of.calls);
    allocated = omega (arith, sum_by_push (λ (s : Sums). s.allocated) stacks no_sums, old.sums_of.allocated);
    frees = omega (arith, sum_by_push (λ (s : Sums). s.frees) stacks no_sums, old.sums_of.frees);
    freed = omega (arith, sum_by_push (λ (s : Sums). s.freed) stacks no_sums, old.sums_of.freed);
    temporary = omega (arith, sum_by_push (λ (s : Sums). s.temporary) stacks no_sums, old.sums_of.temporary);
  };
  each_stack = λ n. subst (λ (s : Sums). Balances s (is_of n) infos) (sym (own-push stacks n)) (old.each_stack n);
}

-- and with one more info
pub consistent-info :
    (count : ℕ) (stacks : List Sums) (infos : List InfoEntry) (sums : Sums) (entry : InfoEntry)
    → AreConsistent count stacks infos sums
    → AreKept count (infos ++ entry ∷ []) sums
    → entry.blocks ≡ 0
    → entry.calls ≡ 0
    → AreConsistent count stacks (infos ++ entry ∷ []) sums
consistent-info count stacks infos sums entry old kept no_blocks no_calls = record {
  kept = kept;
  count_is = old.count_is;
  sums_of = old.sums_of;
  each_stack = λ n. balance-push (sums_at stacks n) (is_of n) infos entry no_blocks no_calls (old.each_stack n);
}

-- what an allocation may add without passing any number's range
pub alloc-fits :
    (count : ℕ) (stacks : List Sums) (infos : List InfoEntry) (sums : Sums) (stack size : ℕ) (own : Sums)
    → AreConsistent count stacks infos sums
    → IsOwn stacks stack own
    → sums.allocated + size ≤ 2 ^ 62
    → sums.calls + sums.frees < 2 ^ 32
    → (own.calls < 2 ^ 32) × (own.allocated + size ≤ 2 ^ 62)
alloc-fits count stacks infos sums stack size own old o fits few = (
  omega (arith, own-in_total (λ (s : Sums). s.calls) stacks stack own o, old.sums_of.calls),
  omega (arith, own-in_total (λ (s : Sums). s.allocated) stacks stack own o, old.sums_of.allocated),
)

-- what a free may add without passing any number's range, and what is live before it
pub record FreeFits (sums : Sums) (size ended : ℕ) : Type 0 where
  pub frees : sums.frees < 2 ^ 32
  pub freed : sums.freed + size ≤ 2 ^ 62
  pub temporary : sums.temporary + ended ≤ 2 ^ 32
  pub live : sums.freed + size ≤ sums.allocated
  pub blocks : sums.frees + 1 ≤ sums.calls

pub free-fits_whole :
    (count : ℕ) (infos : List InfoEntry) (sums : Sums) (i stack size ended : ℕ) (entry : InfoEntry)
    → AreKept count infos sums
    → IsEntry infos i stack size entry
    → 0 < entry.blocks
    → ended ≤ 1
    → FreeFits sums size ended
free-fits_whole count infos sums i stack size ended entry old e live few =
    let left = balance-live sums any_entry infos i stack size entry old.whole e refl live in
    record {
      frees = omega (arith, left.1, old.events_within);
      freed = omega (arith, left.0, old.allocated_within);
      temporary = omega (arith, left.1, old.events_within, old.whole.temporary);
      live = left.0;
      blocks = left.1;
    }

pub free-fits_own :
    (count : ℕ) (stacks : List Sums) (infos : List InfoEntry) (sums : Sums) (i stack size ended : ℕ) (entry : InfoEntry)
    (own : Sums)
    → AreConsistent count stacks infos sums
    → IsEntry infos i stack size entry
    → IsOwn stacks stack own
    → 0 < entry.blocks
    → ended ≤ 1
    → FreeFits own size ended
free-fits_own count stacks infos sums i stack size ended entry own old e o live few =
    let balance : Balances own (is_of stack) infos =
    subst (λ (s : Sums). Balances s (is_of stack) infos) (sym (own-at stacks stack own o)) (old.each_stack stack) in
    let left =
    balance-live own (is_of stack) infos i stack size entry balance e (is_of-own stack entry e.stack_is) live in
    let calls = own-in_total (λ (s : Sums). s.calls) stacks stack own o in
    let allocated = own-in_total (λ (s : Sums). s.allocated) stacks stack own o in
    record {
      frees = omega (arith, left.1, calls, old.sums_of.calls, old.kept.events_within);
      freed = omega (arith, left.0, allocated, old.sums_of.allocated, old.kept.allocated_within);
      temporary = omega (arith, left.1, calls, old.sums_of.calls, old.kept.events_within, balance.temporary);
      live = left.0;
      blocks = left.1;
    }

-- an info's blocks and allocations have room for one more
pub entry-fits :
    (count : ℕ) (infos : List InfoEntry) (sums : Sums) (i stack size : ℕ) (entry : InfoEntry)
    → AreKept count infos sums
    → IsEntry infos i stack size entry
    → sums.calls + sums.frees < 2 ^ 32
    → (entry.blocks + 1 < 2 ^ 64) × (entry.calls + 1 < 2 ^ 64)
entry-fits count infos sums i stack size entry old e few =
    let blocks : entry.blocks ≤ sum_by (blocks_where any_entry) infos =
    entry-in_sum (blocks_where any_entry) infos i stack size entry e in
    let calls : entry.calls ≤ sum_by (calls_where any_entry) infos =
    entry-in_sum (calls_where any_entry) infos i stack size entry e in
    (omega (arith, blocks, old.whole.blocks), omega (arith, calls, old.whole.calls))

-- an info that has a live block has one in its entry
pub entry-live : (infos : List InfoEntry) (i stack size : ℕ) (entry : InfoEntry) → IsEntry infos i stack size entry
    → 0 < slice_index (map blocks_of infos) i → 0 < entry.blocks
entry-live infos i stack size entry e live = omega (arith, number-at blocks_of infos i entry e.within e.is, live)
