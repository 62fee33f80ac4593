-- Lemmas on the ledger's fields: its entries and the sums of its stacks, read and written at their places.
use Rattle.std.proofs.Common.{◌≡◌, ◌≢◌, ℕ, ◌+◌, ◌<◌, ◌≤◌, zero, suc, List, [], ◌∷◌, ◌++◌, length, get_or, set, map}
use Rattle.std.proofs.Common.{Bool, true, false, cond, refl, sym, ap, ◌∙◌, arith}
use Rattle.std.specs.Int.{from_bool}
use Rattle.std.specs.Prelude.{slice_get, slice_index, sum_by, Some}
use Rattle.std.proofs.lemmas.List.{length-map, length-set, get_or-map, get_or_default, map-set, get_or-set_same}
use Rattle.std.proofs.lemmas.List.{get_or-set_other}
use Rattle.std.proofs.lemmas.List.Sums.{sum_by-set, get_or-le-sum_by}
use Rattle.std.proofs.lemmas.Option.{slice_get_within, get_or_from_slice_get}
use Rattle.live_ledger.specs.declared.totals_ledger.InfoEntry.{InfoEntry}
use Rattle.live_ledger.specs.declared.sums.Sums.{Sums}
use Rattle.live_ledger.specs.LedgerState.{HeldInfo}
use Rattle.live_ledger.specs.Consistent.{info_of, sums_at}
use Rattle.live_ledger.specs.Sums.{no_sums}
use Rattle.live_ledger.specs.TotalsState.{TotalsState, entry_at, no_entry}

-- the entry of info `i`, read at its place, has this stack and blocks of this size
pub record IsEntry (entries : List InfoEntry) (i stack size : ℕ) (entry : InfoEntry) : Type 0 where
  pub within : i < length entries
  pub is : entry ≡ get_or entries i entry
  pub stack_is : entry.stack ≡ stack
  pub size_is : entry.size ≡ size

-- an info that is held is in range
pub entry-within : (entries : List InfoEntry) (i : ℕ) (held : HeldInfo) → slice_get (map info_of entries) i ≡ Some held
    → i < length entries
entry-within entries i held is =
    omega (arith, slice_get_within (map info_of entries) i held is, length-map entries info_of)

-- the info of an entry that is read at its place
pub entry-info : (entries : List InfoEntry) (i : ℕ) (held : HeldInfo) (entry : InfoEntry)
    → slice_get (map info_of entries) i ≡ Some held → entry ≡ get_or entries i entry → info_of entry ≡ held
entry-info entries i held entry is read =
    ap info_of read
    ∙ sym (get_or-map info_of entries i entry held (entry-within entries i held is))
    ∙ get_or_from_slice_get (map info_of entries) i held held is

-- an info that is held has an entry with its stack and size
pub entry-is_held :
    (entries : List InfoEntry) (i stack size : ℕ) (entry : InfoEntry)
    → slice_get (map info_of entries) i ≡ Some (record { stack = stack; size = size })
    → entry ≡ get_or entries i entry
    → IsEntry entries i stack size entry
entry-is_held entries i stack size entry held read =
    let info = entry-info entries i (record { stack = stack; size = size }) entry held read in
    record {
      within = entry-within entries i (record { stack = stack; size = size }) held;
      is = read;
      stack_is = ap (λ (h : HeldInfo). h.stack) info;
      size_is = ap (λ (h : HeldInfo). h.size) info;
    }

-- the entry of an info, as contracts tell it, is that read at its place
pub entry-read : (whole : TotalsState) (i : ℕ) (entry : InfoEntry) → i < length whole.infos
    → entry ≡ get_or whole.infos i entry → entry ≡ entry_at whole i
entry-read whole i entry within is = is ∙ get_or_default whole.infos i entry no_entry within

-- and that of an info that is held
pub entry-held : (whole : TotalsState) (i stack size : ℕ)
    → slice_get (map info_of whole.infos) i ≡ Some (record { stack = stack; size = size })
    → IsEntry whole.infos i stack size (entry_at whole i)
entry-held whole i stack size held =
    entry-is_held whole.infos i stack size (entry_at whole i) held
    (get_or_default whole.infos i no_entry (entry_at whole i)
    (entry-within whole.infos i (record { stack = stack; size = size }) held))

-- an entry's part in a sum over all entries
pub entry-in_sum : (f : InfoEntry → ℕ) (entries : List InfoEntry) (i stack size : ℕ) (entry : InfoEntry)
    → IsEntry entries i stack size entry → f entry ≤ sum_by f entries
entry-in_sum f entries i stack size entry e =
    let here : f entry ≡ f (get_or entries i entry) = ap f e.is in
    omega (arith, get_or-le-sum_by f entries i entry e.within)

-- a sum over all entries after an entry is written
pub sum-after : (f : InfoEntry → ℕ) (entries : List InfoEntry) (i stack size : ℕ) (entry written : InfoEntry)
    → IsEntry entries i stack size entry → sum_by f (set entries i written) + f entry ≡ sum_by f entries + f written
sum-after f entries i stack size entry written e =
    let here : f entry ≡ f (get_or entries i entry) = ap f e.is in
    omega (arith, sum_by-set f entries i written entry e.within)

-- a number of an entry, by its place
pub number-at : (f : InfoEntry → ℕ) (entries : List InfoEntry) (i : ℕ) (entry : InfoEntry) → i < length entries
    → entry ≡ get_or entries i entry → slice_index (map f entries) i ≡ f entry
number-at f entries i entry within is = get_or-map f entries i entry 0 within ∙ ap f (sym is)

-- a number of an entry that was written
pub number-at_set : (f : InfoEntry → ℕ) (entries : List InfoEntry) (i : ℕ) (written : InfoEntry) → i < length entries
    → slice_index (map f (set entries i written)) i ≡ f written
number-at_set f entries i written within =
    let inside : i < length (set entries i written) = omega (arith, length-set entries i written) in
    get_or-map f (set entries i written) i written 0 inside ∙ ap f (get_or-set_same entries i written written within)

-- a number of the other entries
pub number-at_others : (f : InfoEntry → ℕ) (entries : List InfoEntry) (i : ℕ) (written : InfoEntry) (other : ℕ)
    → other ≢ i → slice_index (map f (set entries i written)) other ≡ slice_index (map f entries) other
number-at_others f entries i written other apart =
    ap (λ (xs : List ℕ). slice_index xs other) (map-set f entries i written)
    ∙ get_or-set_other (map f entries) i other (f written) 0 apart

-- a new entry whose number is 0 changes the number of no info
pub number-push : (f : InfoEntry → ℕ) (entries : List InfoEntry) (entry : InfoEntry) (i : ℕ) → f entry ≡ 0
    → slice_index (map f (entries ++ entry ∷ [])) i ≡ slice_index (map f entries) i
number-push f [] entry zero none = none
number-push f [] entry (suc i) none = refl
number-push f (x ∷ xs) entry zero none = refl
number-push f (x ∷ xs) entry (suc i) none = number-push f xs entry i none

-- the sums of a stack, read at its place
pub record IsOwn (stacks : List Sums) (stack : ℕ) (own : Sums) : Type 0 where
  pub within : stack < length stacks
  pub is : own ≡ get_or stacks stack own

-- they are what the stack's number gives
pub own-at : (stacks : List Sums) (stack : ℕ) (own : Sums) → IsOwn stacks stack own → own ≡ sums_at stacks stack
own-at stacks stack own o = o.is ∙ get_or_default stacks stack own no_sums o.within

-- the sums of a stack that were written
pub own-written : (stacks : List Sums) (stack : ℕ) (own written : Sums) → IsOwn stacks stack own
    → sums_at (set stacks stack written) stack ≡ written
own-written stacks stack own written o = get_or-set_same stacks stack written no_sums o.within

-- the sums of the other stacks
pub own-others : (stacks : List Sums) (stack other : ℕ) (written : Sums) → other ≢ stack
    → sums_at (set stacks stack written) other ≡ sums_at stacks other
own-others stacks stack other written apart = get_or-set_other stacks stack other written no_sums apart

-- a new stack without sums changes the sums of no number
pub own-push : (stacks : List Sums) (stack : ℕ) → sums_at (stacks ++ no_sums ∷ []) stack ≡ sums_at stacks stack
own-push [] zero = refl
own-push [] (suc n) = refl
own-push (x ∷ xs) zero = refl
own-push (x ∷ xs) (suc n) = own-push xs n

-- a sum over all stacks after one stack's sums are written
pub total-after : (f : Sums → ℕ) (stacks : List Sums) (stack : ℕ) (own written : Sums) → IsOwn stacks stack own
    → sum_by f (set stacks stack written) + f own ≡ sum_by f stacks + f written
total-after f stacks stack own written o =
    let here : f own ≡ f (get_or stacks stack own) = ap f o.is in
    omega (arith, sum_by-set f stacks stack written own o.within)

-- a stack's part in a sum over all stacks
pub own-in_total : (f : Sums → ℕ) (stacks : List Sums) (stack : ℕ) (own : Sums) → IsOwn stacks stack own
    → f own ≤ sum_by f stacks
own-in_total f stacks stack own o =
    let here : f own ≡ f (get_or stacks stack own) = ap f o.is in
    omega (arith, get_or-le-sum_by f stacks stack own o.within)

-- a test as a number
pub byte-is : (test : Bool) → (from_bool test ≡ cond test 1 0) × (from_bool test ≤ 1)
byte-is true = (refl, omega arith)
byte-is false = (refl, omega arith)
