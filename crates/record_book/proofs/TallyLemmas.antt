-- Tallies with an event more.
use Rattle.std.proofs.Common.{◌≡◌, ℕ, ◌+◌, ◌-◌, ◌≤◌, ◌==◌, ◌&&◌, Bool, true, false, cond, List, [], ◌∷◌, Option, None}
use Rattle.std.proofs.Common.{Some, refl, sym, ap, ap₂, ◌∙◌, arith, true≢false}
use Rattle.std.specs.Prelude.{Err, Ok, OnOk, Result, is_some, max, option_map, unwrap_or}
use Rattle.std.proofs.lemmas.Bool.Decides.{nat_tests}
use Rattle.record_scripts.specs.Events.{Event, allocation, free}
use Rattle.record_book.specs.declared.tally.Tally.{Tally}
use Rattle.record_book.specs.Actions.{Action}
use Rattle.record_book.specs.Figures.{Held, allocated, bytes_held, calls, every, has_id, held_after, live_bytes}
use Rattle.record_book.specs.Figures.{live_count, one_held, peak, weigh, without}
use Rattle.record_book.specs.TallyState.{IsTally, size_at, size_in}
use Rattle.record_book.proofs.HeapLemmas.{same}
use Rattle.record_book.proofs.HeldLemmas.{held-size, held-split, held_in, size-without, weight_of}

-- the live bytes and the live blocks, parted by a thread's ID
pub bytes-split : (thread id : ℕ) (actions : List Action)
    → live_bytes every actions
    ≡ weigh (bytes_held every) (without thread id (held_after actions))
    + unwrap_or (size_in (held_after actions) thread id) 0
bytes-split thread id actions =
    held-split (bytes_held every) thread id actions
    ∙ ap (λ (n : ℕ). weigh (bytes_held every) (without thread id (held_after actions)) + n)
    (by (held_in (held_after actions) thread id)
    ∙ ap (λ (found : Option ℕ). unwrap_or found 0) (sym (held-size (held_after actions) thread id)))
  where
    by : (found : Option Held)
        → weight_of (bytes_held every) found ≡ unwrap_or (option_map (λ block. block.size) found) 0
    by None = refl
    by (Some block) = refl

pub count-split : (thread id : ℕ) (actions : List Action)
    → live_count every actions
    ≡ weigh (one_held every) (without thread id (held_after actions))
    + cond (is_some (size_in (held_after actions) thread id)) 1 0
count-split thread id actions =
    held-split (one_held every) thread id actions
    ∙ ap (λ (n : ℕ). weigh (one_held every) (without thread id (held_after actions)) + n)
    (by (held_in (held_after actions) thread id)
    ∙ ap (λ (found : Option ℕ). cond {A = ℕ} (is_some found) 1 0) (sym (held-size (held_after actions) thread id)))
  where
    by : (found : Option Held)
        → weight_of (one_held every) found ≡ cond {A = ℕ}
        (is_some (option_map (λ (block : Held). block.size) found)) 1 0
    by None = refl
    by (Some block) = refl

-- live blocks weigh no more than what was allocated
pub without-within : (weight : Held → ℕ) (thread id : ℕ) (blocks : List Held)
    → weigh weight (without thread id blocks) ≤ weigh weight blocks
without-within weight thread id [] = omega arith
without-within weight thread id (block ∷ older) = by (without-within weight thread id older) (has_id thread id block)
  where
    by : weigh weight (without thread id older) ≤ weigh weight older → (b : Bool)
        → weigh weight (cond b (without thread id older) (block ∷ without thread id older)) ≤ weigh weight
        (block ∷ older)
    by rest true = omega (arith, rest)
    by rest false = omega (arith, rest)

pub bytes-within : (actions : List Action) → live_bytes every actions ≤ allocated every actions
bytes-within [] = omega arith
bytes-within (action ∷ before) = by (bytes-within before) action.event
  where
    by : live_bytes every before ≤ allocated every before → (event : Event)
        → live_bytes every (record { thread = action.thread; event = event } ∷ before)
        ≤ allocated every (record { thread = action.thread; event = event } ∷ before)
    by rest (allocation id size ips) =
        omega (arith, rest, without-within (bytes_held every) action.thread id (held_after before))
    by rest (free id rejoined) =
        omega (arith, rest, without-within (bytes_held every) action.thread id (held_after before))

pub count-within : (actions : List Action) → live_count every actions ≤ calls every actions
count-within [] = omega arith
count-within (action ∷ before) = by (count-within before) action.event
  where
    by : live_count every before ≤ calls every before → (event : Event)
        → live_count every (record { thread = action.thread; event = event } ∷ before)
        ≤ calls every (record { thread = action.thread; event = event } ∷ before)
    by rest (allocation id size ips) =
        omega (arith, rest, without-within (one_held every) action.thread id (held_after before))
    by rest (free id rejoined) =
        omega (arith, rest, without-within (one_held every) action.thread id (held_after before))

pub peak-within : (actions : List Action) → peak actions ≤ allocated every actions
peak-within [] = omega arith
peak-within (action ∷ before) =
    let here = bytes-within (action ∷ before) in
    let grown : allocated every before ≤ allocated every (action ∷ before) = omega arith in
    omega (arith, here, grown, peak-within before)

-- a tally with an allocation more
pub tally-allocated : (old new : Tally) (actions : List Action) (thread id size : ℕ) (ips : List ℕ) (found : Option ℕ)
    → IsTally old actions → found ≡ size_at old thread id
    → ((t i : ℕ) → size_at new t i ≡ cond (same thread id t i) (Some size) (size_at old t i))
    → new.total ≡ old.total - unwrap_or found 0 + size → new.blocks ≡ old.blocks - cond (is_some found) 1 0 + 1
    → new.calls ≡ old.calls + 1 → new.allocated ≡ old.allocated + size
    → new.peak ≡ max new.total old.peak
    → IsTally new (record { thread = thread; event = allocation id size ips } ∷ actions)
tally-allocated old new actions thread id size ips found is at put total blocks calls_is allocated_is peak_is = record {
  live =
      λ t i. put t i ∙ ap (cond (same thread id t i) (Some size)) (is.live t i)
      ∙ twice (same thread id t i) (size_in (held_after actions) t i)
      ∙ ap (cond (same thread id t i) (Some size)) (sym (size-without thread id (held_after actions) t i));
  total = bytes;
  blocks =
      omega (
        arith,
        blocks,
        is.blocks,
        count-split thread id actions,
        ap (λ (f : Option ℕ). cond {A = ℕ} (is_some f) 1 0) here,
      );
  calls_is = omega (arith, calls_is, is.calls_is);
  allocated_is = omega (arith, allocated_is, is.allocated_is);
  peak_is = peak_is ∙ ap₂ (λ (x y : ℕ). max x y) bytes is.peak_is;
}
  where
    here : found ≡ size_in (held_after actions) thread id
    here = at ∙ is.live thread id

    twice : (b : Bool) (other : Option ℕ) → cond b (Some size) other ≡ cond b (Some size) (cond b None other)
    twice true other = refl
    twice false other = refl

    bytes : new.total ≡ live_bytes every (record { thread = thread; event = allocation id size ips } ∷ actions)
    bytes = omega (arith, total, is.total, bytes-split thread id actions, ap (λ (f : Option ℕ). unwrap_or f 0) here)

-- a tally with a free more
pub tally-freed : (old new : Tally) (actions : List Action) (thread id : ℕ) (rejoined : Bool) (found : Option ℕ)
    → IsTally old actions → found ≡ size_at old thread id
    → ((t i : ℕ) → size_at new t i ≡ cond (same thread id t i) None (size_at old t i))
    → new.total ≡ old.total - unwrap_or found 0 → new.blocks ≡ old.blocks - cond (is_some found) 1 0
    → new.calls ≡ old.calls → new.allocated ≡ old.allocated
    → new.peak ≡ max new.total old.peak → IsTally new (record { thread = thread; event = free id rejoined } ∷ actions)
tally-freed old new actions thread id rejoined found is at put total blocks calls_is allocated_is peak_is = record {
  live =
      λ t i. put t i ∙ ap (cond (same thread id t i) None) (is.live t i)
      ∙ sym (size-without thread id (held_after actions) t i);
  total = bytes;
  blocks =
      omega (
        arith,
        blocks,
        is.blocks,
        count-split thread id actions,
        ap (λ (f : Option ℕ). cond {A = ℕ} (is_some f) 1 0) here,
      );
  calls_is = omega (arith, calls_is, is.calls_is);
  allocated_is = omega (arith, allocated_is, is.allocated_is);
  peak_is = peak_is ∙ ap₂ (λ (x y : ℕ). max x y) bytes is.peak_is;
}
  where
    here : found ≡ size_in (held_after actions) thread id
    here = at ∙ is.live thread id

    bytes : new.total ≡ live_bytes every (record { thread = thread; event = free id rejoined } ∷ actions)
    bytes = omega (arith, total, is.total, bytes-split thread id actions, ap (λ (f : Option ℕ). unwrap_or f 0) here)

-- what is freed was live
pub freed-within : (old : Tally) (actions : List Action) (thread id : ℕ) (found : Option ℕ) → IsTally old actions
    → found ≡ size_at old thread id
    → (unwrap_or found 0 ≤ old.total) × (cond (is_some found) 1 0 ≤ old.blocks)
freed-within old actions thread id found is at = (
  omega (arith, is.total, bytes-split thread id actions, ap (λ (f : Option ℕ). unwrap_or f 0) (at ∙ is.live thread id)),
  omega (
    arith,
    is.blocks,
    count-split thread id actions,
    ap (λ (f : Option ℕ). cond {A = ℕ} (is_some f) 1 0) (at ∙ is.live thread id),
  ),
)

-- the figures have bounds
pub tally-within : (tally : Tally) (actions : List Action) → IsTally tally actions
    → (tally.total ≤ tally.allocated) × (tally.blocks ≤ tally.calls) × (tally.peak ≤ tally.allocated)
tally-within tally actions is = (
  omega (arith, is.total, is.allocated_is, bytes-within actions),
  omega (arith, is.blocks, is.calls_is, count-within actions),
  omega (arith, is.peak_is, is.allocated_is, peak-within actions),
)

pub if-ok : {X E : Type 0} (r : Result X E) (P Q : Type 0) → (P → Q) → OnOk r P → OnOk r Q
if-ok (Ok x) P Q f p = f p
if-ok (Err e) P Q f p = tt
