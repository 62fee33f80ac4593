-- The heap of the code after a block is put or freed.
use Rattle.std.proofs.Common.{◌≡◌, ℕ, ◌+◌, ◌==◌, ◌&&◌, Bool, true, false, cond, List, Option, None, Some, refl, sym, ap}
use Rattle.std.proofs.Common.{ap₂, ◌∙◌, subst, arith}
use Rattle.std.specs.Prelude.{IfNone, IfSome, Result, Ok, Err, OnErr}
use Rattle.std.proofs.lemmas.Bool.Decides.{nat_tests}
use Rattle.record_book.specs.declared.heap.Heap.{Heap}
use Rattle.record_book.specs.declared.live_blocks.LiveEntry.{LiveEntry}
use Rattle.record_book.specs.HeapPlaces.{Place, class_of, next_address, placed, released}
use Rattle.record_book.specs.HeapState.{AreOf, IsHeap, IsSameHeap, TakesNext, entry_at, has_place}
use Rattle.record_book.proofs.HeapLemmas.{same}
use Rattle.record_book.proofs.NextLemmas.{of-freed, of-put, of-same}
use Rattle.record_book.proofs.PlaceLemmas.{entry-not-free}

-- a heap with the same blocks and places
pub same-heap : (old new : Heap) → ((t i : ℕ) → entry_at new t i ≡ entry_at old t i)
    → ((c a : ℕ) → has_place new.free c a ≡ has_place old.free c a) → new.end ≡ old.end → IsSameHeap old new
same-heap old new live free end = record {
  places_are = λ places of.
      subst (λ (n : ℕ). AreOf (entry_at new) (has_place new.free) n places) (sym end)
      (of-same (entry_at old) (entry_at new) (has_place old.free) (has_place new.free) old.end places of live free);
  end_is = end;
}

-- the place of a live block isn't free
pub left-not-free : (heap : Heap) (places : List Place) (thread id : ℕ) → IsHeap heap places
    → IfSome (entry_at heap thread id) (λ entry. has_place heap.free entry.class entry.address ≡ false)
left-not-free heap places thread id of = by (entry_at heap thread id) refl
  where
    by : (found : Option LiveEntry) → entry_at heap thread id ≡ found
        → IfSome found (λ entry. has_place heap.free entry.class entry.address ≡ false)
    by None at = tt
    by (Some entry) at =
        of.free_places entry.class entry.address
        ∙ entry-not-free places thread id entry.class entry of.only (sym (of.live_blocks thread id) ∙ at)

-- a block that is taken out of the live ones and put back
pub put-back : (live : ℕ → ℕ → Option LiveEntry) (thread id : ℕ) (entry : LiveEntry) → live thread id ≡ Some entry
    → (t i : ℕ)
    → cond (same thread id t i) (Some entry) (cond (same thread id t i) None (live t i)) ≡ live t i
put-back live thread id entry at t i = by (same thread id t i) refl
  where
    by : (b : Bool) → same thread id t i ≡ b → cond b (Some entry) (cond b None (live t i)) ≡ live t i
    by true p =
        let x : thread ≡ t = grind (arith, nat_tests, p) in
        let y : id ≡ i = grind (arith, nat_tests, p) in
        sym at ∙ ap₂ live x y
    by false p = refl

-- a block at the next address of its class, once the live one of its ID is freed
pub block-put : (old mid after new : Heap) (places : List Place) (thread id size class address : ℕ) → IsHeap old places
    → IfSome (entry_at old thread id)
    (λ entry. (c a : ℕ)
    → has_place mid.free c a ≡ cond (entry.class == c && entry.address == a) true (has_place old.free c a))
    → IfNone (entry_at old thread id) ((c a : ℕ) → has_place mid.free c a ≡ has_place old.free c a) → mid.end ≡ old.end
    → class ≡ class_of size
    → ((live : ℕ → ℕ → Option LiveEntry) (ps : List Place) → AreOf live (has_place mid.free) mid.end ps
    → TakesNext mid after class ps address)
    → ((t i : ℕ)
    → entry_at new t i
    ≡ cond (same thread id t i) (Some (record { address = address; class = class })) (entry_at old t i))
    → (address ≡ next_address (class_of size) (released thread id places))
    × AreOf (entry_at new) (has_place after.free) after.end
    (placed (record { thread = thread; id = id; size = size }) (released thread id places))
block-put old mid after new places thread id size class address of some none same_end class_is take put =
    let live : ℕ → ℕ → Option LiveEntry = λ t i. cond (same thread id t i) None (entry_at old t i) in
    let left = released thread id places in
    let freed =
    of-freed (entry_at old) live (has_place old.free) (has_place mid.free) old.end places thread id of some none
    (λ t i. refl) in
    let took = take live left (subst (λ (n : ℕ). AreOf live (has_place mid.free) n left) (sym same_end) freed) in
    let next : address ≡ next_address (class_of size) left =
    took.next ∙ ap (λ (n : ℕ). next_address n left) class_is in (
      next,
      of-put (entry_at old) (entry_at new) (has_place old.free) (has_place mid.free) (has_place after.free) old.end
          after.end places thread id size address of some none next
          (λ c a. took.left c a ∙ ap (λ (n : ℕ). cond (n == c && address == a) false (has_place mid.free c a)) class_is)
          (λ t i. put t i
          ∙ ap
          (λ (n : ℕ). cond (same thread id t i) (Some (record { address = address; class = n })) (entry_at old t i))
          class_is)
          (took.end_is ∙ ap₂ (λ (e n : ℕ). cond (address == e) (e + n) e) same_end class_is),
    )

pub on-err : {X E : Type 0} (r : Result X E) (P : Type 0) → P → OnErr r P
on-err (Ok x) P p = tt
on-err (Err e) P p = p
