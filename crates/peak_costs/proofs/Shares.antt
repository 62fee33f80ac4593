-- The stacks' shares after figures are saved, after a new peak, and with one more stack.
use Rattle.std.proofs.Common.{◌≡◌, ◌≢◌, ℕ, ◌+◌, ◌<◌, ◌≤◌, List, [], ◌∷◌, ◌++◌, length, set, Bool, true, cond, refl, inl}
use Rattle.std.proofs.Common.{inr, sym, ap, ◌∙◌, arith}
use Rattle.std.specs.Prelude.{◌==◌, slice_index}
use Rattle.std.proofs.lemmas.Bool.{eq-eqb}
use Rattle.std.proofs.lemmas.Bool.Decides.{eqb_tells}
use Rattle.std.proofs.lemmas.List.{get_or_past, get_or-set_same, get_or-set_other, length-set}
use Rattle.std.proofs.lemmas.List.FromFn.{fill_by_all, get_or-map-range_with_len, length-map-range_with_len}
use Rattle.std.proofs.lemmas.List.FromFn.{map-range_with_len_more}
use Rattle.peak_costs.specs.Saved.{saved_after, share_at, shares_of, stamps_after}

-- how many shares there are
pub shares-length : (stacks : ℕ) (live saved stamps : List ℕ) (counter : ℕ)
    → length (shares_of stacks live saved stamps counter) ≡ stacks
shares-length stacks live saved stamps counter = length-map-range_with_len (share_at live saved stamps counter) 0 stacks

-- the share of a stack that is held
pub shares-at : (stacks : ℕ) (live saved stamps : List ℕ) (counter stack : ℕ) → stack < stacks
    → slice_index (shares_of stacks live saved stamps counter) stack ≡ share_at live saved stamps counter stack
shares-at stacks live saved stamps counter stack within =
    get_or-map-range_with_len (share_at live saved stamps counter) 0 stacks stack stack 0 within (omega arith)

-- there is none of another
pub shares-past : (stacks : ℕ) (live saved stamps : List ℕ) (counter stack : ℕ) → stacks ≤ stack
    → slice_index (shares_of stacks live saved stamps counter) stack ≡ 0
shares-past stacks live saved stamps counter stack past =
    get_or_past (shares_of stacks live saved stamps counter) stack 0
    (omega (arith, shares-length stacks live saved stamps counter))

-- shares that are equal one by one are equal
pub shares-same :
    (stacks : ℕ) (live saved stamps : List ℕ) (counter : ℕ) (live_now saved_now stamps_now : List ℕ) (counter_now : ℕ)
    → ((stack : ℕ) → stack < stacks
    → share_at live_now saved_now stamps_now counter_now stack ≡ share_at live saved stamps counter stack)
    → shares_of stacks live_now saved_now stamps_now counter_now ≡ shares_of stacks live saved stamps counter
shares-same stacks live saved stamps counter live_now saved_now stamps_now counter_now same =
    sym (fill_by_all (share_at live_now saved_now stamps_now counter_now) (shares_of stacks live saved stamps counter)
    stacks 0
    (shares-length stacks live saved stamps counter)
    (λ stack within. shares-at stacks live saved stamps counter stack within ∙ sym (same stack within)))

-- a choice by a test whose answer is known
chosen : (test : Bool) (answer : Bool) (x y : ℕ) → test ≡ answer → cond {A = ℕ} test x y ≡ cond {A = ℕ} answer x y
chosen test answer x y is = ap (λ (b : Bool). cond {A = ℕ} b x y) is

chosen-list : (test : Bool) (answer : Bool) (x y : List ℕ) → test ≡ answer
    → cond {A = List ℕ} test x y ≡ cond {A = List ℕ} answer x y
chosen-list test answer x y is = ap (λ (b : Bool). cond {A = List ℕ} b x y) is

-- saving changes no length
pub saved-length : (saved stamps : List ℕ) (counter stack figure : ℕ)
    → length (saved_after saved stamps counter stack figure) ≡ length saved
saved-length saved stamps counter stack figure =
    elim (eqb_tells (slice_index stamps stack) counter) [
      | inl is ↦ ap (λ (xs : List ℕ). length xs) (chosen-list _ _ saved (set saved stack figure) is.0)
      | inr isnt ↦ ap (λ (xs : List ℕ). length xs) (chosen-list _ _ saved (set saved stack figure) isnt.0)
          ∙ length-set saved stack figure
    ]

pub stamps-length : (stamps : List ℕ) (counter stack : ℕ) → length (stamps_after stamps counter stack) ≡ length stamps
stamps-length stamps counter stack = saved-length stamps stamps counter stack counter

-- the stamps after saving: that of the stack is the counter, and others stay
pub stamps-own : (stamps : List ℕ) (counter stack : ℕ) → stack < length stamps
    → slice_index (stamps_after stamps counter stack) stack ≡ counter
stamps-own stamps counter stack within =
    elim (eqb_tells (slice_index stamps stack) counter) [
      | inl is ↦ ap (λ (xs : List ℕ). slice_index xs stack) (chosen-list _ _ stamps (set stamps stack counter) is.0)
          ∙ is.1
      | inr isnt ↦ ap (λ (xs : List ℕ). slice_index xs stack) (chosen-list _ _ stamps (set stamps stack counter) isnt.0)
          ∙ get_or-set_same stamps stack counter 0 within
    ]

pub saved-others : (saved stamps : List ℕ) (counter stack figure other : ℕ) → other ≢ stack
    → slice_index (saved_after saved stamps counter stack figure) other ≡ slice_index saved other
saved-others saved stamps counter stack figure other apart =
    elim (eqb_tells (slice_index stamps stack) counter) [
      | inl is ↦ ap (λ (xs : List ℕ). slice_index xs other) (chosen-list _ _ saved (set saved stack figure) is.0)
      | inr isnt ↦ ap (λ (xs : List ℕ). slice_index xs other) (chosen-list _ _ saved (set saved stack figure) isnt.0)
          ∙ get_or-set_other saved stack other figure 0 apart
    ]

pub stamps-others : (stamps : List ℕ) (counter stack other : ℕ) → other ≢ stack
    → slice_index (stamps_after stamps counter stack) other ≡ slice_index stamps other
stamps-others stamps counter stack other apart = saved-others stamps stamps counter stack counter other apart

-- the saved figure of the stack is its share before
saved-own : (live saved stamps : List ℕ) (counter stack : ℕ) → stack < length saved
    → slice_index (saved_after saved stamps counter stack (slice_index live stack)) stack
    ≡ share_at live saved stamps counter stack
saved-own live saved stamps counter stack within =
    elim (eqb_tells (slice_index stamps stack) counter) [
      | inl is ↦
          ap (λ (xs : List ℕ). slice_index xs stack)
          (chosen-list _ _ saved (set saved stack (slice_index live stack)) is.0)
          ∙ sym (chosen _ _ (slice_index saved stack) (slice_index live stack) is.0)
      | inr isnt ↦
          ap (λ (xs : List ℕ). slice_index xs stack)
          (chosen-list _ _ saved (set saved stack (slice_index live stack)) isnt.0)
          ∙ get_or-set_same saved stack (slice_index live stack) 0 within
          ∙ sym (chosen _ _ (slice_index saved stack) (slice_index live stack) isnt.0)
    ]

-- a share is told by the three numbers of its stack
pub share-same :
    (live live_now saved saved_now stamps stamps_now : List ℕ) (counter n : ℕ)
    → slice_index live_now n ≡ slice_index live n
    → slice_index saved_now n ≡ slice_index saved n
    → slice_index stamps_now n ≡ slice_index stamps n
    → share_at live_now saved_now stamps_now counter n ≡ share_at live saved stamps counter n
share-same live live_now saved saved_now stamps stamps_now counter n live_same saved_same stamps_same =
    ap (λ (m : ℕ). cond {A = ℕ} (m == counter) (slice_index saved_now n) (slice_index live_now n)) stamps_same
    ∙ ap (λ (m : ℕ). cond {A = ℕ} (slice_index stamps n == counter) m (slice_index live_now n)) saved_same
    ∙ ap (λ (m : ℕ). cond {A = ℕ} (slice_index stamps n == counter) (slice_index saved n) m) live_same

-- a stack's figures are saved, and then change: no share does
pub share-saved :
    (live live_now saved stamps : List ℕ) (counter stack : ℕ)
    → stack < length saved
    → stack < length stamps
    → ((other : ℕ) → other ≢ stack → slice_index live_now other ≡ slice_index live other)
    → (n : ℕ)
    → share_at live_now (saved_after saved stamps counter stack (slice_index live stack))
    (stamps_after stamps counter stack) counter n
    ≡ share_at live saved stamps counter n
share-saved live live_now saved stamps counter stack in_saved in_stamps others n =
    let saved_now : List ℕ = saved_after saved stamps counter stack (slice_index live stack) in
    let stamps_now : List ℕ = stamps_after stamps counter stack in
    elim (eqb_tells n stack) [
      | inl own ↦
          let stamped : slice_index stamps_now n ≡ counter =
          ap (λ (m : ℕ). slice_index stamps_now m) own.1 ∙ stamps-own stamps counter stack in_stamps in
          let is : (slice_index stamps_now n == counter) ≡ true = eq-eqb _ _ stamped in
          chosen _ _ (slice_index saved_now n) (slice_index live_now n) is
          ∙ ap (λ (m : ℕ). slice_index saved_now m) own.1
          ∙ saved-own live saved stamps counter stack in_saved
          ∙ ap (λ (m : ℕ). share_at live saved stamps counter m) (sym own.1)
      | inr apart ↦
          share-same live live_now saved saved_now stamps stamps_now counter n (others n apart.1)
          (saved-others saved stamps counter stack (slice_index live stack) n apart.1)
          (stamps-others stamps counter stack n apart.1)
    ]

-- a stamp that isn't the counter leaves the live figure
pub share-live : (live saved stamps : List ℕ) (counter stack : ℕ) → slice_index stamps stack ≢ counter
    → share_at live saved stamps counter stack ≡ slice_index live stack
share-live live saved stamps counter stack apart =
    elim (eqb_tells (slice_index stamps stack) counter) [
      | inl is ↦ absurd (apart is.1)
      | inr isnt ↦ chosen _ _ (slice_index saved stack) (slice_index live stack) isnt.0
    ]

-- and one that is the counter the saved one
share-kept : (live saved stamps : List ℕ) (counter stack : ℕ) → slice_index stamps stack ≡ counter
    → share_at live saved stamps counter stack ≡ slice_index saved stack
share-kept live saved stamps counter stack is =
    chosen _ _ (slice_index saved stack) (slice_index live stack) (eq-eqb _ _ is)

-- the share of a held stack by its stamp
pub shares-kept_at : (stacks : ℕ) (live saved stamps : List ℕ) (counter stack : ℕ) → stack < stacks
    → slice_index stamps stack ≡ counter
    → slice_index (shares_of stacks live saved stamps counter) stack ≡ slice_index saved stack
shares-kept_at stacks live saved stamps counter stack within is =
    shares-at stacks live saved stamps counter stack within ∙ share-kept live saved stamps counter stack is

pub shares-live_at : (stacks : ℕ) (live saved stamps : List ℕ) (counter stack : ℕ) → stack < stacks
    → slice_index stamps stack ≢ counter
    → slice_index (shares_of stacks live saved stamps counter) stack ≡ slice_index live stack
shares-live_at stacks live saved stamps counter stack within isnt =
    shares-at stacks live saved stamps counter stack within ∙ share-live live saved stamps counter stack isnt

-- at a new peak every share is the live figure
pub shares-raised :
    (live saved stamps : List ℕ) (counter : ℕ)
    → ((stack : ℕ) → slice_index stamps stack ≤ counter)
    → shares_of (length live) live saved stamps (counter + 1) ≡ live
shares-raised live saved stamps counter within =
    sym (fill_by_all (share_at live saved stamps (counter + 1)) live (length live) 0 refl
    (λ stack inside. sym
    (share-live live saved stamps (counter + 1) stack (let below = within stack in λ is. omega arith))))

-- one more stack, without a stamp and without figures, has the share 0
pub shares-more :
    (stacks : ℕ) (live live_now saved saved_now stamps stamps_now : List ℕ) (counter : ℕ)
    → 0 < counter
    → slice_index stamps_now stacks ≡ 0
    → slice_index live_now stacks ≡ 0
    → ((n : ℕ) → slice_index live_now n ≡ slice_index live n)
    → ((n : ℕ) → slice_index saved_now n ≡ slice_index saved n)
    → ((n : ℕ) → slice_index stamps_now n ≡ slice_index stamps n)
    → shares_of (stacks + 1) live_now saved_now stamps_now counter
    ≡ shares_of stacks live saved stamps counter ++ 0 ∷ []
shares-more stacks live live_now saved saved_now stamps stamps_now counter some no_stamp no_live live_same saved_same
    stamps_same =
    let last : share_at live_now saved_now stamps_now counter stacks ≡ 0 =
    share-live live_now saved_now stamps_now counter stacks (λ is. omega arith) ∙ no_live in
    map-range_with_len_more (share_at live_now saved_now stamps_now counter) 0 stacks stacks (omega arith)
    ∙ ap (λ (xs : List ℕ). xs ++ share_at live_now saved_now stamps_now counter stacks ∷ [])
    (shares-same stacks live saved stamps counter live_now saved_now stamps_now counter
    (λ n within. share-same live live_now saved saved_now stamps stamps_now counter n (live_same n) (saved_same n)
    (stamps_same n)))
    ∙ ap (λ (m : ℕ). shares_of stacks live saved stamps counter ++ m ∷ []) last
