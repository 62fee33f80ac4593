-- Where live blocks lie: no two at one address, and a new one at none of theirs.
use Rattle.std.proofs.Common.{◌≡◌, ◌≢◌, ℕ, ◌+◌, ◌<◌, ◌≤◌, ◌==◌, ◌&&◌, ◌||◌, Bool, true, false, cond, inl, inr, List, []}
use Rattle.std.proofs.Common.{◌∷◌, Option, None, Some, refl, sym, ap, ◌∙◌, arith, true≢false}
use Rattle.std.proofs.lemmas.Bool.Decides.{nat_tests}
use Rattle.std.proofs.lemmas.Option.{same_Some}
use Rattle.record_scripts.specs.Events.{Event, allocation, free}
use Rattle.record_book.specs.declared.live_blocks.LiveEntry.{LiveEntry}
use Rattle.record_book.specs.HeapPlaces.{Block, Place, taken, empty, address_of, class_of, end_of, free_addresses}
use Rattle.record_book.specs.HeapPlaces.{is_of, least, next_address, placed, places_with, released}
use Rattle.record_book.specs.HeapState.{AreOf, AreOnly, entry_in, is_free}
use Rattle.record_book.proofs.HeapLemmas.{end-released, entry-released, free-end, least-in, of-placed, of-same}
use Rattle.record_book.proofs.HeapLemmas.{only-released, same}
use Rattle.record_book.proofs.HeldLemmas.{same-self}

-- a live block lies before the end
below-end : (places : List Place) (t i : ℕ) (entry : LiveEntry) → AreOnly places → entry_in places t i ≡ Some entry
    → entry.address < end_of places
below-end [] t i entry only is = absurd (grind (arith, is))
below-end (empty class ∷ older) t i entry only is = omega (arith, only.0, below-end older t i entry only.1 is)
below-end (taken class block ∷ older) t i entry only is =
    by (λ is. below-end older t i entry only.3 is) (is_of t i block) is
  where
    by : (entry_in older t i ≡ Some entry → entry.address < end_of older) → (b : Bool)
        → cond b (Some (record { address = end_of older; class = class })) (entry_in older t i) ≡ Some entry
        → entry.address < end_of older + class
    by ih true is =
        let here : end_of older ≡ entry.address =
        ap (λ (e : LiveEntry). e.address) (same_Some (record { address = end_of older; class = class }) entry is) in
        omega (arith, only.0, here)
    by ih false is = omega (arith, only.0, ih is)

-- blocks at one address are one
pub entry-apart : (places : List Place) (t i u j : ℕ) (x y : LiveEntry) → AreOnly places → entry_in places t i ≡ Some x
    → entry_in places u j ≡ Some y → x.address ≡ y.address → same t i u j ≡ true
entry-apart [] t i u j x y only p q e = absurd (grind (arith, p))
entry-apart (empty class ∷ older) t i u j x y only p q e = entry-apart older t i u j x y only.1 p q e
entry-apart (taken class block ∷ older) t i u j x y only p q e =
    by (λ p q. entry-apart older t i u j x y only.3 p q e) (λ p. below-end older t i x only.3 p)
    (λ q. below-end older u j y only.3 q) (is_of t i block) (is_of u j block) refl refl p q
  where
    here : (z : LiveEntry) → Some (record { address = end_of older; class = class }) ≡ Some z → end_of older ≡ z.address
    here z is = ap (λ (e : LiveEntry). e.address) (same_Some (record { address = end_of older; class = class }) z is)

    by : (entry_in older t i ≡ Some x → entry_in older u j ≡ Some y → same t i u j ≡ true)
        → (entry_in older t i ≡ Some x → x.address < end_of older)
        → (entry_in older u j ≡ Some y → y.address < end_of older)
        → (a b : Bool) → is_of t i block ≡ a → is_of u j block ≡ b
        → cond a (Some (record { address = end_of older; class = class })) (entry_in older t i) ≡ Some x
        → cond b (Some (record { address = end_of older; class = class })) (entry_in older u j) ≡ Some y
        → same t i u j ≡ true
    by ih less_x less_y true true a b p q = sym (of-same block t i u j a) ∙ b
    by ih less_x less_y true false a b p q = absurd (omega (arith, here x p, less_y q, e))
    by ih less_x less_y false true a b p q = absurd (omega (arith, here y q, less_x p, e))
    by ih less_x less_y false false a b p q = ih p q

-- no empty place lies at the address of a live block
pub entry-not-free : (places : List Place) (t i class : ℕ) (entry : LiveEntry) → AreOnly places
    → entry_in places t i ≡ Some entry → is_free places class entry.address ≡ false
entry-not-free [] t i class entry only is = refl
entry-not-free (empty other ∷ older) t i class entry only is =
    let less = below-end older t i entry only.1 is in
    by (other == class) (end_of older == entry.address) (grind (arith, nat_tests, less))
    (entry-not-free older t i class entry only.1 is)
  where
    by : (a b : Bool) → b ≡ false → is_free older class entry.address ≡ false
        → ((a && b) || is_free older class entry.address) ≡ false
    by true true p rest = absurd (true≢false p)
    by true false p rest = rest
    by false b p rest = rest
entry-not-free (taken other block ∷ older) t i class entry only is =
    by (λ is. entry-not-free older t i class entry only.3 is) (is_of t i block) is
  where
    by : (entry_in older t i ≡ Some entry → is_free older class entry.address ≡ false) → (b : Bool)
        → cond b (Some (record { address = end_of older; class = other })) (entry_in older t i) ≡ Some entry
        → is_free older class entry.address ≡ false
    by ih true is =
        let here : end_of older ≡ entry.address =
        ap (λ (e : LiveEntry). e.address) (same_Some (record { address = end_of older; class = other }) entry is) in
        free-end older class entry.address only.3 (omega (arith, here))
    by ih false is = ih is

-- a new block lies at the address of none
pub entry-next : (places : List Place) (t i class : ℕ) (entry : LiveEntry) → AreOnly places
    → entry_in places t i ≡ Some entry → entry.address ≢ next_address class places
entry-next places t i class entry only is = λ here.
    elim (least-in (end_of places) class places) [
      | inl last ↦ absurd (omega (arith, below-end places t i entry only is, here, last))
      | inr spot ↦ absurd
          (true≢false
          (sym spot
          ∙ (ap (λ (a : ℕ). is_free places class a) (sym here) ∙ entry-not-free places t i class entry only is)))
    ]

-- the block of an allocation
abbrev new_block : ℕ → ℕ → ℕ → Block
new_block thread id size = record { thread = thread; id = id; size = size }

-- places with an allocation more
record IsAllocated (thread id size : ℕ) (places after : List Place) : Type 0 where
  less : ℕ → ℕ → Bool
  end : ℕ
  few : end ≤ end_of places + class_of size
  of : AreOf
      (λ t i. cond (same thread id t i)
      (Some (record { address = next_address (class_of size) (released thread id places); class = class_of size }))
      (entry_in (released thread id places) t i))
      less end after

allocated-of : (thread id size : ℕ) (places : List Place) → AreOnly places
    → IsAllocated thread id size places (placed (new_block thread id size) (released thread id places))
allocated-of thread id size places only =
    let left = released thread id places in
    let address = next_address (class_of size) left in
    let none : entry_in left thread id ≡ None =
    entry-released thread id places thread id
    ∙ ap (λ (b : Bool). cond b None (entry_in places thread id)) (same-self thread id) in
    record {
      less = λ c a. cond (class_of size == c && address == a) false (is_free left c a);
      end = cond (address == end_of left) (end_of left + class_of size) (end_of left);
      few = by (address == end_of left) (end-released thread id places);
      of = of-placed (entry_in left) _ (is_free left) _ (end_of left) _ left (new_block thread id size) address
          (record {
            live_blocks =
                λ t i. refl;
            free_places = λ c a. refl;
            end_is = refl;
            only = only-released thread id places only;
          })
          none refl (λ c a. refl) (λ t i. refl) refl;
    }
  where
    by : (b : Bool) → end_of (released thread id places) ≡ end_of places
        → cond b (end_of (released thread id places) + class_of size) (end_of (released thread id places))
        ≤ end_of places + class_of size
    by true is = omega (arith, is)
    by false is = omega (arith, is)

-- where the blocks lie after an allocation
pub entry-allocated : (thread id size : ℕ) (ips : List ℕ) (places : List Place) (t i : ℕ) → AreOnly places
    → entry_in (places_with thread (allocation id size ips) places) t i
    ≡ cond (same thread id t i)
    (Some (record { address = next_address (class_of size) (released thread id places); class = class_of size }))
    (entry_in places t i)
entry-allocated thread id size ips places t i only =
    sym ((allocated-of thread id size places only).of.live_blocks t i)
    ∙ ap (λ (rest : Option LiveEntry). cond (same thread id t i)
    (Some (record { address = next_address (class_of size) (released thread id places); class = class_of size }))
    rest) (entry-released
    thread id places t i)
    ∙ twice (same thread id t i)
  where
    twice : (b : Bool)
        → cond b
        (Some (record { address = next_address (class_of size) (released thread id places); class = class_of size }))
        (cond b None (entry_in places t i))
        ≡ cond b
        (Some (record { address = next_address (class_of size) (released thread id places); class = class_of size }))
        (entry_in places t i)
    twice true = refl
    twice false = refl

-- each block is the only one of its ID, whatever was done
pub only-with : (thread : ℕ) (event : Event) (places : List Place) → AreOnly places
    → AreOnly (places_with thread event places)
only-with thread (allocation id size ips) places only = (allocated-of thread id size places only).of.only
only-with thread (free id rejoined) places only = only-released thread id places only

-- the places grow by a class at most
pub end-allocated : (thread id size : ℕ) (ips : List ℕ) (places : List Place) → AreOnly places
    → end_of (places_with thread (allocation id size ips) places) ≤ end_of places + class_of size
end-allocated thread id size ips places only =
    let done = allocated-of thread id size places only in omega (arith, done.few, done.of.end_is)

-- and addresses lie before their end
least-up : (n : ℕ) (ms : List ℕ) → least n ms ≤ n
least-up n [] = omega arith
least-up n (m ∷ ms) = omega (arith, least-up n ms)

pub next-within : (class : ℕ) (places : List Place) → next_address class places ≤ end_of places
next-within class places = least-up (end_of places) (free_addresses class places)

pub address-within : (t i : ℕ) (places : List Place) → address_of t i places ≤ end_of places
address-within t i [] = omega arith
address-within t i (empty class ∷ older) = omega (arith, address-within t i older)
address-within t i (taken class block ∷ older) = by (is_of t i block) (address-within t i older)
  where
    by : (b : Bool) → address_of t i older ≤ end_of older
        → cond b (end_of older) (address_of t i older) ≤ end_of older + class
    by true rest = omega arith
    by false rest = omega (arith, rest)
