-- How an event keeps the balance between sums and entries.
use Rattle.std.proofs.Common.{◌≡◌, ℕ, ◌+◌, ◌-◌, ◌*◌, ◌<◌, ◌≤◌, List, [], ◌∷◌, ◌++◌, set, Bool, true, false, cond, refl}
use Rattle.std.proofs.Common.{ap, ◌∙◌, zero-mul, arith}
use Rattle.std.specs.Prelude.{sum_by}
use Rattle.std.proofs.lemmas.List.Sums.{sum_by_push}
use Rattle.live_ledger.specs.declared.totals_ledger.InfoEntry.{InfoEntry}
use Rattle.live_ledger.specs.declared.sums.Sums.{Sums}
use Rattle.live_ledger.specs.Consistent.{Balances, bytes_where, blocks_where, calls_where}
use Rattle.live_ledger.specs.Sums.{IsPaired, with_alloc, with_free}
use Rattle.live_ledger.specs.TotalsState.{one_fewer, one_more}
use Rattle.live_ledger.proofs.Entries.{IsEntry, entry-in_sum, sum-after}

-- what an entry that is meant, and one that is not, has in the three sums
pub record HasParts (meant : InfoEntry → Bool) (entry : InfoEntry) (bytes blocks calls : ℕ) : Type 0 where
  pub bytes_are : bytes_where meant entry ≡ bytes
  pub blocks_are : blocks_where meant entry ≡ blocks
  pub calls_are : calls_where meant entry ≡ calls

parts-meant : (meant : InfoEntry → Bool) (entry : InfoEntry) → meant entry ≡ true
    → HasParts meant entry (entry.blocks * entry.size) entry.blocks entry.calls
parts-meant meant entry is = record {
  bytes_are = ap (λ (b : Bool). cond {A = ℕ} b (entry.blocks * entry.size) 0) is;
  blocks_are = ap (λ (b : Bool). cond {A = ℕ} b entry.blocks 0) is;
  calls_are = ap (λ (b : Bool). cond {A = ℕ} b entry.calls 0) is;
}

parts-left_out : (meant : InfoEntry → Bool) (entry : InfoEntry) → meant entry ≡ false → HasParts meant entry 0 0 0
parts-left_out meant entry is = record {
  bytes_are = ap (λ (b : Bool). cond {A = ℕ} b (entry.blocks * entry.size) 0) is;
  blocks_are = ap (λ (b : Bool). cond {A = ℕ} b entry.blocks 0) is;
  calls_are = ap (λ (b : Bool). cond {A = ℕ} b entry.calls 0) is;
}

-- the balance after an entry is written, by what it had and has in the three sums
balance-written :
    (own new : Sums) (meant : InfoEntry → Bool) (infos : List InfoEntry) (i stack size : ℕ) (entry written : InfoEntry)
    (bytes blocks calls bytes_now blocks_now calls_now : ℕ)
    → Balances own meant infos
    → IsEntry infos i stack size entry
    → HasParts meant entry bytes blocks calls
    → HasParts meant written bytes_now blocks_now calls_now
    → new.freed + own.allocated + bytes_now ≡ own.freed + new.allocated + bytes
    → new.frees + own.calls + blocks_now ≡ own.frees + new.calls + blocks
    → own.calls + calls_now ≡ new.calls + calls
    → new.temporary ≤ new.frees
    → Balances new meant (set infos i written)
balance-written own new meant infos i stack size entry written bytes blocks calls bytes_now blocks_now calls_now old e
    had has bytes_step blocks_step calls_step temporary =
    let bytes_after = sum-after (bytes_where meant) infos i stack size entry written e in
    let blocks_after = sum-after (blocks_where meant) infos i stack size entry written e in
    let calls_after = sum-after (calls_where meant) infos i stack size entry written e in
    record {
      bytes = omega (arith, bytes_after, old.bytes, had.bytes_are, has.bytes_are, bytes_step);
      blocks = omega (arith, blocks_after, old.blocks, had.blocks_are, has.blocks_are, blocks_step);
      calls = omega (arith, calls_after, old.calls, had.calls_are, has.calls_are, calls_step);
      temporary = temporary;
    }

-- sums that don't mean an entry keep their balance when it is written
pub balance-others :
    (own : Sums) (meant : InfoEntry → Bool) (infos : List InfoEntry) (i stack size : ℕ) (entry written : InfoEntry)
    → Balances own meant infos
    → IsEntry infos i stack size entry
    → meant entry ≡ false
    → meant written ≡ false
    → Balances own meant (set infos i written)
balance-others own meant infos i stack size entry written old e before after =
    balance-written own own meant infos i stack size entry written 0 0 0 0 0 0 old e (parts-left_out meant entry before)
    (parts-left_out meant written after)
    (omega arith) (omega arith) (omega arith) old.temporary

-- the balance after an allocation
pub balance-alloc :
    (own : Sums) (meant : InfoEntry → Bool) (infos : List InfoEntry) (i stack size : ℕ) (entry : InfoEntry)
    → Balances own meant infos
    → IsEntry infos i stack size entry
    → meant entry ≡ true
    → meant (one_more entry) ≡ true
    → Balances (with_alloc own size) meant (set infos i (one_more entry))
balance-alloc own meant infos i stack size entry old e before after =
    let size_is : entry.size ≡ size = e.size_is in
    balance-written own (with_alloc own size) meant infos i stack size entry (one_more entry) _ _ _ _ _ _ old e
    (parts-meant meant entry before) (parts-meant meant (one_more entry) after)
    (omega arith) (omega arith) (omega arith) old.temporary

-- the balance after a free
pub balance-free :
    (own : Sums) (meant : InfoEntry → Bool) (infos : List InfoEntry) (i stack size ended : ℕ) (entry : InfoEntry)
    → Balances own meant infos
    → IsEntry infos i stack size entry
    → 0 < entry.blocks
    → ended ≤ 1
    → meant entry ≡ true
    → meant (one_fewer entry) ≡ true
    → Balances (with_free own size ended) meant (set infos i (one_fewer entry))
balance-free own meant infos i stack size ended entry old e live few before after =
    let left : (entry.blocks - 1) + 1 ≡ entry.blocks = omega arith in
    let bytes_left : ((entry.blocks - 1) + 1) * entry.size ≡ entry.blocks * entry.size =
    ap (λ (n : ℕ). n * entry.size) left in
    let size_is : entry.size ≡ size = e.size_is in
    let temporary : own.temporary + ended ≤ own.frees + 1 = omega (arith, old.temporary) in
    balance-written own (with_free own size ended) meant infos i stack size entry (one_fewer entry) _ _ _ _ _ _ old e
    (parts-meant meant entry before) (parts-meant meant (one_fewer entry) after)
    (omega arith) (omega arith) (omega arith) temporary

-- nothing is nothing, meant or not
nothing-meant : (test : Bool) (n : ℕ) → n ≡ 0 → cond {A = ℕ} test n 0 ≡ 0
nothing-meant true n none = none
nothing-meant false n none = refl

-- a new entry that has none of what is summed leaves the sum
sum-push_none : (meant : InfoEntry → Bool) (part : InfoEntry → ℕ) (infos : List InfoEntry) (entry : InfoEntry)
    → part entry ≡ 0
    → sum_by (λ e. cond {A = ℕ} (meant e) (part e) 0) (infos ++ entry ∷ [])
    ≡ sum_by (λ e. cond {A = ℕ} (meant e) (part e) 0) infos
sum-push_none meant part infos entry none =
    let nothing : cond {A = ℕ} (meant entry) (part entry) 0 ≡ 0 = nothing-meant (meant entry) (part entry) none in
    omega (arith, sum_by_push (λ (e : InfoEntry). cond {A = ℕ} (meant e) (part e) 0) infos entry)

-- a new entry without blocks and allocations keeps the balance
pub balance-push : (own : Sums) (meant : InfoEntry → Bool) (infos : List InfoEntry) (entry : InfoEntry)
    → entry.blocks ≡ 0 → entry.calls ≡ 0 → Balances own meant infos → Balances own meant (infos ++ entry ∷ [])
balance-push own meant infos entry no_blocks no_calls old =
    let no_bytes : entry.blocks * entry.size ≡ 0 = ap (λ (n : ℕ). n * entry.size) no_blocks ∙ zero-mul entry.size in
    let bytes = sum-push_none meant (λ (e : InfoEntry). e.blocks * e.size) infos entry no_bytes in
    let blocks = sum-push_none meant (λ (e : InfoEntry). e.blocks) infos entry no_blocks in
    let calls = sum-push_none meant (λ (e : InfoEntry). e.calls) infos entry no_calls in
    record {
      bytes = omega (arith, bytes, old.bytes);
      blocks = omega (arith, blocks, old.blocks);
      calls = omega (arith, calls, old.calls);
      temporary = old.temporary;
    }

-- sums that balance are paired
pub balance-paired : (own : Sums) (meant : InfoEntry → Bool) (infos : List InfoEntry) → Balances own meant infos
    → IsPaired own
balance-paired own meant infos old =
    record {
      freed_within = omega (arith, old.bytes);
      frees_within = omega (arith, old.blocks);
      temporary_within = old.temporary;
    }

-- a live block of an entry that is meant is in the sums
pub balance-live :
    (own : Sums) (meant : InfoEntry → Bool) (infos : List InfoEntry) (i stack size : ℕ) (entry : InfoEntry)
    → Balances own meant infos
    → IsEntry infos i stack size entry
    → meant entry ≡ true
    → 0 < entry.blocks
    → (own.freed + size ≤ own.allocated) × (own.frees + 1 ≤ own.calls)
balance-live own meant infos i stack size entry old e is live =
    let parts = parts-meant meant entry is in
    let once : 1 * entry.size ≤ entry.blocks * entry.size = grind arith in (
      omega (
        arith,
        entry-in_sum (bytes_where meant) infos i stack size entry e,
        parts.bytes_are,
        old.bytes,
        e.size_is,
        once,
      ),
      omega (arith, entry-in_sum (blocks_where meant) infos i stack size entry e, parts.blocks_are, old.blocks),
    )
