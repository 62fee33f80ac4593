-- What contracts see of the ledger's fields.
use Rattle.std.proofs.Common.{◌≡◌, ◌≢◌, ℕ, ◌+◌, ◌-◌, ◌^◌, ◌<◌, ◌≤◌, List, [], ◌∷◌, ◌++◌, length, get_or, set, map, Bool}
use Rattle.std.proofs.Common.{true, false, Option, cond, refl, inl, inr, sym, ap, subst, ◌∙◌, arith}
use Rattle.std.specs.Prelude.{nat_eq, nat_lt, ◌==◌, if◌then◌else◌, slice_get, slice_index, sum_by, Some, None}
use Rattle.std.specs.List.{All}
use Rattle.std.specs.Option.{option_eq}
use Rattle.std.proofs.lemmas.Bool.{cases_lt}
use Rattle.std.proofs.lemmas.Bool.Decides.{nat_tests}
use Rattle.std.proofs.lemmas.List.{get_or_past, length-map}
use Rattle.std.proofs.Math.ListN as lists
use Rattle.std.proofs.lemmas.List.Elements.{All-from_get_or, All-get_or, All-head, All-tail}
use Rattle.std.proofs.lemmas.List.Sums.{get_or-le-sum_by, sum-map, sum_by-cons}
use Rattle.std.proofs.Math.Seq.{map-set_same}
use Rattle.live_ledger.specs.declared.event.Event.TheVariants.{Free}
use Rattle.live_ledger.specs.declared.event.EventFault.{EventFault}
use Rattle.live_ledger.specs.declared.event.EventFault.TheVariants.{CostTooLarge, FreeOfNothing}
use Rattle.live_ledger.specs.declared.figures.Figures.{Figures}
use Rattle.live_ledger.specs.declared.totals_ledger.InfoEntry.{InfoEntry}
use Rattle.live_ledger.specs.declared.sums.Sums.{Sums}
use Rattle.live_ledger.specs.LedgerState.{HeldInfo, figures_at, no_figures}
use Rattle.live_ledger.specs.Changes.{AddsBlock, Allocates, Frees, GainsBlock, LosesBlock, TakesBlock, ended_by_free}
use Rattle.live_ledger.specs.Consistent.{AreConsistent, AreKept, AreSumsOf, any_entry, blocks_of, calls_of, info_of}
use Rattle.live_ledger.specs.Consistent.{is_of, stack_of, sums_at}
use Rattle.live_ledger.specs.Faults.{fault_at}
use Rattle.live_ledger.specs.Sound.{AreSums, AreWithin, IsSound}
use Rattle.live_ledger.specs.Sums.{IsPaired, figures_of, no_sums, totals_of, with_alloc, with_free}
use Rattle.live_ledger.proofs.Balances.{balance-paired}
use Rattle.live_ledger.proofs.Consistency.{FreeFits, alloc-fits, consistent-alloc, consistent-free, entry-live}
use Rattle.live_ledger.proofs.Consistency.{free-fits_own, free-fits_whole}
use Rattle.live_ledger.specs.TotalsState.{IsKept, TotalsState, entry_at, ledger_of, one_fewer, one_more, state_of}
use Rattle.live_ledger.specs.TotalsState.{with_block, without_block}
use Rattle.live_ledger.proofs.Entries.{IsEntry, IsOwn, entry-held, entry-within, number-at, number-at_others}
use Rattle.live_ledger.proofs.Entries.{number-at_set, own-at, own-others, own-push, own-written}

-- the state of a ledger of totals by its parts
abbrev pub whole_of : ℕ → List InfoEntry → Sums → Option ℕ → TotalsState
whole_of stacks infos sums last = record { stacks = stacks; infos = infos; sums = sums; last = last }

-- the figures of a stack by its number are those of its sums
pub figures-at : (stacks : List Sums) (whole : TotalsState) (n : ℕ)
    → figures_at (state_of stacks whole) n ≡ figures_of (sums_at stacks n)
figures-at stacks whole n = lists.get_or-map figures_of stacks n no_sums

-- the figures of a stack that is read at its place
pub figures-own : (stacks : List Sums) (whole : TotalsState) (n : ℕ) (own : Sums) → IsOwn stacks n own
    → figures_of own ≡ figures_at (state_of stacks whole) n
figures-own stacks whole n own o = ap figures_of (own-at stacks n own o) ∙ sym (figures-at stacks whole n)

-- a new stack changes the figures of no number
pub figures-push : (stacks : List Sums) (before after : TotalsState) (n : ℕ)
    → figures_at (state_of (stacks ++ no_sums ∷ []) after) n ≡ figures_at (state_of stacks before) n
figures-push stacks before after n =
    figures-at (stacks ++ no_sums ∷ []) after n ∙ ap figures_of (own-push stacks n) ∙ sym (figures-at stacks before n)

-- the sums of a stack balance, and so are paired
pub own-paired : (count : ℕ) (stacks : List Sums) (infos : List InfoEntry) (sums : Sums) (n : ℕ)
    → AreConsistent count stacks infos sums → IsPaired (sums_at stacks n)
own-paired count stacks infos sums n old = balance-paired (sums_at stacks n) (is_of n) infos (old.each_stack n)

-- what is left of two sums over a list is the sum of what is left of each
sum-left :
    (whole part left : Sums → ℕ) (xs : List Sums)
    → All (λ s. left s + part s ≡ whole s) xs
    → sum_by left xs + sum_by part xs ≡ sum_by whole xs
sum-left whole part left [] all = refl
sum-left whole part left (x ∷ xs) all =
    let here : left x + part x ≡ whole x = All-head (λ (s : Sums). left s + part s ≡ whole s) x xs all in
    let rest = sum-left whole part left xs (All-tail (λ (s : Sums). left s + part s ≡ whole s) x xs all) in
    omega (arith, sum_by-cons left x xs, sum_by-cons part x xs, sum_by-cons whole x xs, here, rest)

-- what is live of each stack sums to what is live
sums-live :
    (stacks : List Sums) (sums : Sums)
    → ((n : ℕ) → IsPaired (sums_at stacks n))
    → AreSumsOf sums stacks
    → (sum_by (λ (s : Sums). s.allocated - s.freed) stacks ≡ sums.allocated - sums.freed)
    × (sum_by (λ (s : Sums). s.calls - s.frees) stacks ≡ sums.calls - sums.frees)
sums-live stacks sums paired are =
    let bytes =
    sum-left (λ (s : Sums). s.allocated) (λ (s : Sums). s.freed) (λ (s : Sums). s.allocated - s.freed) stacks
    (All-from_get_or (λ (s : Sums). (s.allocated - s.freed) + s.freed ≡ s.allocated) stacks no_sums
    (λ i within. let p = (paired i).freed_within in omega (arith, p))) in
    let blocks = sum-left (λ (s : Sums). s.calls) (λ (s : Sums). s.frees) (λ (s : Sums). s.calls - s.frees) stacks
    (All-from_get_or (λ (s : Sums). (s.calls - s.frees) + s.frees ≡ s.calls) stacks no_sums
    (λ i within. let p = (paired i).frees_within in omega (arith, p))) in
    (omega (arith, bytes, are.allocated, are.freed), omega (arith, blocks, are.calls, are.frees))

-- a sum over figures is one over sums
sum-figures : (f : Figures → ℕ) (stacks : List Sums)
    → sum_by f (map figures_of stacks) ≡ sum_by (λ (s : Sums). f (figures_of s)) stacks
sum-figures f [] = refl
sum-figures f (x ∷ xs) =
    sum_by-cons f (figures_of x) (map figures_of xs) ∙ ap (λ (n : ℕ). f (figures_of x) + n) (sum-figures f xs)
    ∙ sym (sum_by-cons (λ (s : Sums). f (figures_of s)) x xs)

-- the figures of all stacks are those of the trace
pub figures-sum : (count : ℕ) (stacks : List Sums) (infos : List InfoEntry) (sums : Sums)
    → AreConsistent count stacks infos sums → AreSums (totals_of sums) (map figures_of stacks)
figures-sum count stacks infos sums old =
    let live = sums-live stacks sums (λ n. own-paired count stacks infos sums n old) old.sums_of in
    record {
      live = sum-figures (λ (f : Figures). f.live) stacks ∙ live.0;
      blocks = sum-figures (λ (f : Figures). f.blocks) stacks ∙ live.1;
      calls = sum-figures (λ (f : Figures). f.calls) stacks ∙ old.sums_of.calls;
      temporary = sum-figures (λ (f : Figures). f.temporary) stacks ∙ old.sums_of.temporary;
      allocated = sum-figures (λ (f : Figures). f.allocated) stacks ∙ old.sums_of.allocated;
    }

-- a figure of a stack is within the sum over all, held or not
part-within : (f : Figures → ℕ) (figures : List Figures) (n : ℕ) → f no_figures ≡ 0
    → f (get_or figures n no_figures) ≤ sum_by f figures
part-within f figures n none =
    elim (cases_lt n (length figures)) [
      | inl within ↦ get_or-le-sum_by f figures n no_figures within
      | inr past ↦
          (let is : f (get_or figures n no_figures)
          ≡ 0 = ap f (get_or_past figures n no_figures past) ∙ none in omega (arith, is))
    ]

-- the figures of a stack, held or not, are within the totals
figures-within : (count : ℕ) (stacks : List Sums) (infos : List InfoEntry) (sums : Sums) (n : ℕ)
    → AreConsistent count stacks infos sums → AreWithin (get_or (map figures_of stacks) n no_figures) (totals_of sums)
figures-within count stacks infos sums n old =
    let are = figures-sum count stacks infos sums old in
    let paired = own-paired count stacks infos sums n old in
    let own : figures_of (sums_at stacks n) ≡ get_or (map figures_of stacks) n no_figures =
    sym (lists.get_or-map figures_of stacks n no_sums) in
    let live : (figures_of (sums_at stacks n)).live ≤ (figures_of (sums_at stacks n)).allocated = omega arith in
    let blocks : (figures_of (sums_at stacks n)).temporary + (figures_of (sums_at stacks n)).blocks
    ≤ (figures_of (sums_at stacks n)).calls = omega (arith, paired.frees_within, paired.temporary_within) in
    record {
      live = subst (λ (f : Figures). f.live ≤ f.allocated) own live;
      blocks = subst (λ (f : Figures). f.temporary + f.blocks ≤ f.calls) own blocks;
      live_within = omega (arith, part-within (λ (f : Figures). f.live) (map figures_of stacks) n refl, are.live);
      blocks_within = omega (arith, part-within (λ (f : Figures). f.blocks) (map figures_of stacks) n refl, are.blocks);
      calls_within = omega (arith, part-within (λ (f : Figures). f.calls) (map figures_of stacks) n refl, are.calls);
      temporary_within =
          omega (arith, part-within (λ (f : Figures). f.temporary) (map figures_of stacks) n refl, are.temporary);
      allocated_within =
          omega (arith, part-within (λ (f : Figures). f.allocated) (map figures_of stacks) n refl, are.allocated);
    }

-- the stack of an entry, read at its place, is held
pub stack-of_entry :
    (count : ℕ) (infos : List InfoEntry) (sums : Sums) (i : ℕ) (entry : InfoEntry)
    → AreKept count infos sums
    → i < length infos
    → entry ≡ get_or infos i entry
    → entry.stack < count
stack-of_entry count infos sums i entry old within read =
    let here : slice_index (map stack_of infos) i ≡ entry.stack = number-at stack_of infos i entry within read in
    let inside : i < length (map stack_of infos) = omega (arith, length-map infos stack_of, within) in
    let below : slice_index (map stack_of infos) i < count =
    All-get_or (λ (stack : ℕ). stack < count) (map stack_of infos) i 0 inside old.held in
    omega arith

-- the stack of an info is held
pub stack-held :
    (whole : TotalsState) (i : ℕ) (held : HeldInfo)
    → IsKept whole
    → slice_get (map info_of whole.infos) i ≡ Some held
    → held.stack < whole.stacks
stack-held whole i held old is =
    let e = entry-held whole i held.stack held.size is in
    omega (arith, stack-of_entry whole.stacks whole.infos whole.sums i (entry_at whole i) old e.within e.is, e.stack_is)

-- the fields of a ledger are sound
pub sound : (stacks : List Sums) (whole : TotalsState) → AreConsistent whole.stacks stacks whole.infos whole.sums
    → IsSound (state_of stacks whole)
sound stacks whole old =
    let paired = balance-paired whole.sums any_entry whole.infos old.kept.whole in
    record {
      stacks = length-map stacks figures_of ∙ sym old.count_is;
      stack_0 = old.kept.stack_0;
      stacks_within = old.kept.stacks_within;
      infos_within = omega (arith, length-map whole.infos info_of, old.kept.infos_within);
      stack_held = λ i held is. stack-held whole i held old.kept is;
      sums = figures-sum whole.stacks stacks whole.infos whole.sums old;
      blocks_of_infos = sum-map blocks_of whole.infos ∙ (let balance = old.kept.whole.blocks in omega (arith, balance));
      calls_of_infos = sum-map calls_of whole.infos ∙ old.kept.whole.calls;
      each_stack = λ n. figures-within whole.stacks stacks whole.infos whole.sums n old;
      live_within = omega arith;
      allocated_within = old.kept.allocated_within;
      blocks_within = omega (arith, paired.frees_within, paired.temporary_within);
      calls_and_frees = omega (arith, paired.frees_within);
      events_within = old.kept.events_within;
    }

-- the figures of the other stacks after one stack's sums are written
figures-others :
    (stacks : List Sums) (before after : TotalsState) (stack other : ℕ) (written : Sums)
    → other ≢ stack
    → figures_at (state_of (set stacks stack written) after) other ≡ figures_at (state_of stacks before) other
figures-others stacks before after stack other written apart =
    figures-at (set stacks stack written) after other
    ∙ ap figures_of (own-others stacks stack other written apart)
    ∙ sym (figures-at stacks before other)

-- a free ends one temporary allocation or none
pub ended-few : (whole : TotalsState) (info : ℕ) → ended_by_free (ledger_of whole) info ≤ 1
ended-few whole info = one-or-none (option_eq nat_eq whole.last (Some info))
  where
    one-or-none : (test : Bool) → cond {A = ℕ} test 1 0 ≤ 1
    one-or-none true = omega arith
    one-or-none false = omega arith

-- what an allocation changes but for the figures of stacks
pub block-added :
    (whole : TotalsState) (i stack size : ℕ)
    → IsKept whole
    → IsEntry whole.infos i stack size (entry_at whole i)
    → AddsBlock (ledger_of whole) (ledger_of (with_block whole i size)) i size
block-added whole i stack size old e =
    let entry : InfoEntry = entry_at whole i in
    let paired = balance-paired whole.sums any_entry whole.infos old.whole in
    record {
      stacks = refl;
      infos = map-set_same info_of whole.infos i (one_more entry) entry (ap info_of e.is);
      blocks_of_info =
          number-at_set blocks_of whole.infos i (one_more entry) e.within
          ∙ ap (λ (n : ℕ). n + 1) (sym (number-at blocks_of whole.infos i entry e.within e.is));
      blocks_of_others = number-at_others blocks_of whole.infos i (one_more entry);
      calls_of_info =
          number-at_set calls_of whole.infos i (one_more entry) e.within
          ∙ ap (λ (n : ℕ). n + 1) (sym (number-at calls_of whole.infos i entry e.within e.is));
      calls_of_others = number-at_others calls_of whole.infos i (one_more entry);
      events = omega arith;
      calls = refl;
      temporary = refl;
      allocated = refl;
      live = omega (arith, paired.freed_within);
      blocks = omega (arith, paired.frees_within);
      last = refl;
    }

-- and what a free does
pub block-taken :
    (whole : TotalsState) (i stack size : ℕ)
    → IsKept whole
    → IsEntry whole.infos i stack size (entry_at whole i)
    → 0 < (entry_at whole i).blocks
    → TakesBlock (ledger_of whole) (ledger_of (without_block whole i size)) i size
block-taken whole i stack size old e live =
    let entry : InfoEntry = entry_at whole i in
    let fits =
    free-fits_whole whole.stacks whole.infos whole.sums i stack size (ended_by_free (ledger_of whole) i) entry old e
    live (ended-few whole i) in
    let left : (entry.blocks - 1) + 1 ≡ entry.blocks = omega arith in
    record {
      stacks = refl;
      infos = map-set_same info_of whole.infos i (one_fewer entry) entry (ap info_of e.is);
      blocks_of_info =
          ap (λ (n : ℕ). n + 1) (number-at_set blocks_of whole.infos i (one_fewer entry) e.within) ∙ left
          ∙ sym (number-at blocks_of whole.infos i entry e.within e.is);
      blocks_of_others = number-at_others blocks_of whole.infos i (one_fewer entry);
      info_calls = map-set_same calls_of whole.infos i (one_fewer entry) entry (ap calls_of e.is);
      events = omega arith;
      calls = refl;
      temporary = refl;
      allocated = refl;
      live = omega (arith, fits.live);
      blocks = omega (arith, fits.blocks);
      last = refl;
    }

-- what contracts see of an allocation
pub fields-alloc :
    (stacks : List Sums) (whole : TotalsState) (i stack size : ℕ) (own : Sums)
    → AreConsistent whole.stacks stacks whole.infos whole.sums
    → IsEntry whole.infos i stack size (entry_at whole i)
    → IsOwn stacks stack own
    → Allocates (state_of stacks whole) (state_of (set stacks stack (with_alloc own size)) (with_block whole i size)) i
    stack size
fields-alloc stacks whole i stack size own old e o =
    let own_paired : IsPaired own =
    subst (λ (s : Sums). IsPaired s) (sym (own-at stacks stack own o))
    (own-paired whole.stacks stacks whole.infos whole.sums stack old) in
    let before = figures-own stacks whole stack own o in
    let after : figures_of (with_alloc own size)
    ≡ figures_at (state_of (set stacks stack (with_alloc own size)) (with_block whole i size)) stack =
    sym (figures-at (set stacks stack (with_alloc own size)) (with_block whole i size) stack
    ∙ ap figures_of (own-written stacks stack own (with_alloc own size) o)) in
    let gains : GainsBlock (figures_of own) (figures_of (with_alloc own size)) size = record {
      live = omega (arith, own_paired.freed_within);
      blocks = omega (arith, own_paired.frees_within);
      calls = refl;
      temporary = refl;
      allocated = refl;
    } in
    record {
      whole = block-added whole i stack size old.kept e;
      figures =
          subst (λ (f : Figures). GainsBlock f
          (figures_at (state_of (set stacks stack (with_alloc own size)) (with_block whole i size)) stack) size) before
          (subst (λ (f : Figures). GainsBlock (figures_of own) f size) after gains);
      figures_of_others =
          λ other apart. figures-others stacks whole (with_block whole i size) stack other (with_alloc own size) apart;
    }

-- what contracts see of a free
pub fields-free :
    (stacks : List Sums) (whole : TotalsState) (i stack size : ℕ) (own : Sums)
    → AreConsistent whole.stacks stacks whole.infos whole.sums
    → IsEntry whole.infos i stack size (entry_at whole i)
    → IsOwn stacks stack own
    → 0 < (entry_at whole i).blocks
    → Frees (state_of stacks whole)
    (state_of (set stacks stack (with_free own size (ended_by_free (ledger_of whole) i))) (without_block whole i size))
    i stack size
fields-free stacks whole i stack size own old e o live =
    let ended : ℕ = ended_by_free (ledger_of whole) i in
    let part =
    free-fits_own whole.stacks stacks whole.infos whole.sums i stack size ended (entry_at whole i) own old e o live
    (ended-few whole i) in
    let before = figures-own stacks whole stack own o in
    let after : figures_of (with_free own size ended)
    ≡ figures_at (state_of (set stacks stack (with_free own size ended)) (without_block whole i size)) stack =
    sym (figures-at (set stacks stack (with_free own size ended)) (without_block whole i size) stack
    ∙ ap figures_of (own-written stacks stack own (with_free own size ended) o)) in
    let loses : LosesBlock (figures_of own) (figures_of (with_free own size ended)) size ended = record {
      live = omega (arith, part.live);
      blocks = omega (arith, part.blocks);
      calls = refl;
      temporary = refl;
      allocated = refl;
    } in
    record {
      whole = block-taken whole i stack size old.kept e live;
      figures =
          subst (λ (f : Figures). LosesBlock f
          (figures_at (state_of (set stacks stack (with_free own size ended)) (without_block whole i size)) stack) size
          ended) before
          (subst (λ (f : Figures). LosesBlock (figures_of own) f size ended) after loses);
      figures_of_others =
          λ other apart. figures-others stacks whole (without_block whole i size) stack other (with_free own size ended)
          apart;
    }

-- the stack of an info that is held has its place among the sums
pub stack-within :
    (stacks : List Sums) (whole : TotalsState) (i : ℕ) (held : HeldInfo)
    → AreConsistent whole.stacks stacks whole.infos whole.sums
    → slice_get (map info_of whole.infos) i ≡ Some held
    → held.stack < length stacks
stack-within stacks whole i held old is = omega (arith, stack-held whole i held old.kept is, old.count_is)

-- a block of an info that is held is allocated: what fits, and what holds after it
pub record Allocating (stacks : List Sums) (whole : TotalsState) (i stack size : ℕ) (own : Sums) : Type 0 where
  pub fits :
      whole.sums.allocated + size ≤ 2 ^ 62
      → whole.sums.calls + whole.sums.frees < 2 ^ 32
      → (own.calls < 2 ^ 32) × (own.allocated + size ≤ 2 ^ 62)
  pub consistent :
      IsKept (with_block whole i size)
      → AreConsistent whole.stacks (set stacks stack (with_alloc own size)) (with_block whole i size).infos
      (with_block whole i size).sums
  pub changes :
      Allocates (state_of stacks whole) (state_of (set stacks stack (with_alloc own size)) (with_block whole i size)) i
      stack size

pub allocating :
    (stacks : List Sums) (whole : TotalsState) (i stack size : ℕ) (own : Sums)
    → AreConsistent whole.stacks stacks whole.infos whole.sums
    → slice_get (map info_of whole.infos) i ≡ Some (record { stack = stack; size = size })
    → own ≡ get_or stacks stack own
    → Allocating stacks whole i stack size own
allocating stacks whole i stack size own old held read =
    let o : IsOwn stacks stack own = record { within = stack-within stacks whole i _ old held; is = read } in
    let entry = entry-held whole i stack size held in
    record {
      fits = alloc-fits _ _ _ _ _ _ _ old o;
      consistent = λ kept. consistent-alloc _ _ _ _ _ _ _ _ _ old kept entry o;
      changes = fields-alloc _ _ _ _ _ _ old entry o;
    }

-- a live block of an info that is held is freed: what fits, and what holds after it
pub record Freeing (stacks : List Sums) (whole : TotalsState) (i stack size : ℕ) (own : Sums) : Type 0 where
  pub fits : FreeFits own size (ended_by_free (ledger_of whole) i)
  pub consistent :
      IsKept (without_block whole i size)
      → AreConsistent whole.stacks (set stacks stack (with_free own size (ended_by_free (ledger_of whole) i)))
      (without_block whole i size).infos (without_block whole i size).sums
  pub changes :
      Frees (state_of stacks whole)
      (state_of (set stacks stack (with_free own size (ended_by_free (ledger_of whole) i))) (without_block whole i size))
      i stack size

pub freeing :
    (stacks : List Sums) (whole : TotalsState) (i stack size : ℕ) (own : Sums)
    → AreConsistent whole.stacks stacks whole.infos whole.sums
    → slice_get (map info_of whole.infos) i ≡ Some (record { stack = stack; size = size })
    → 0 < slice_index (map blocks_of whole.infos) i
    → own ≡ get_or stacks stack own
    → Freeing stacks whole i stack size own
freeing stacks whole i stack size own old held some read =
    let o : IsOwn stacks stack own = record { within = stack-within stacks whole i _ old held; is = read } in
    let entry = entry-held whole i stack size held in
    let live = entry-live _ _ _ _ _ entry some in
    record {
      fits = free-fits_own _ _ _ _ _ _ _ _ _ _ old entry o live (ended-few whole i);
      consistent = λ kept. consistent-free _ _ _ _ _ _ _ _ _ _ old kept entry o live (ended-few whole i);
      changes = fields-free _ _ _ _ _ _ old entry o live;
    }

-- a free of an info by its entry: a fault exactly where it has no live block
pub fault-of_entry :
    (whole : TotalsState) (i stack size : ℕ) (entry : InfoEntry)
    → slice_get (map info_of whole.infos) i ≡ Some (record { stack = stack; size = size })
    → entry ≡ get_or whole.infos i entry
    → fault_at (ledger_of whole) (Free i stack size) ≡ (if entry.blocks == 0 then Some FreeOfNothing else None)
fault-of_entry whole i stack size entry held is =
    rw (number-at blocks_of whole.infos i entry (entry-within whole.infos i _ held) is)

-- an allocation that fits has no fault
pub fits-alloc : (allocated size : ℕ) → allocated ≤ 2 ^ 62 → size ≤ 2 ^ 62 - allocated
    → None ≡ cond {A = Option EventFault} (nat_lt (2 ^ 62) (allocated + size)) (Some CostTooLarge) None
fits-alloc allocated size within fits =
    let fits_all : allocated + size ≤ 2 ^ 62 = omega arith in
    grind (arith, nat_tests)
