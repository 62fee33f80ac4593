-- The next address of a class once a block is freed, and a heap after a free and an allocation.
use Rattle.std.proofs.Common.{◌≡◌, ℕ, ◌+◌, ◌<◌, ◌≤◌, ◌==◌, ◌&&◌, Bool, true, false, cond, List, [], ◌∷◌, Option, None}
use Rattle.std.proofs.Common.{Some, refl, sym, ap, ◌∙◌, arith}
use Rattle.std.specs.Prelude.{IfNone, IfSome}
use Rattle.std.proofs.lemmas.Bool.Decides.{nat_tests}
use Rattle.record_book.specs.declared.live_blocks.LiveEntry.{LiveEntry}
use Rattle.record_book.specs.HeapPlaces.{Place, taken, empty, address_of, class_of, end_of, is_of, next_address, placed}
use Rattle.record_book.specs.HeapPlaces.{released}
use Rattle.record_book.specs.HeapState.{AreOf, AreOnly, entry_in, is_free}
use Rattle.record_book.proofs.HeapLemmas.{free-below, least-ge, least-le, least-none, of-kept, of-placed, of-released}
use Rattle.record_book.proofs.HeapLemmas.{same}

-- the address of a live block
address-by : (b : Bool) (here rest class : ℕ) (older : Option LiveEntry) (entry : LiveEntry)
    → (older ≡ Some entry → rest ≡ entry.address)
    → cond b (Some (record { address = here; class = class })) older ≡ Some entry → cond b here rest ≡ entry.address
address-by true here rest class older entry behind at = grind (arith, at)
address-by false here rest class older entry behind at = behind at

pub address-some : (places : List Place) (thread id : ℕ) (entry : LiveEntry) → entry_in places thread id ≡ Some entry
    → address_of thread id places ≡ entry.address
address-some [] thread id entry at = absurd (grind (arith, at))
address-some (taken class block ∷ older) thread id entry at =
    address-by (is_of thread id block) (end_of older) (address_of thread id older) class (entry_in older thread id)
    entry (address-some older thread id entry) at
address-some (empty class ∷ older) thread id entry at = address-some older thread id entry at

none-by : (b : Bool) (here rest class : ℕ) (older : Option LiveEntry) → (older ≡ None → rest ≡ 0)
    → cond b (Some (record { address = here; class = class })) older ≡ None → cond b here rest ≡ 0
none-by true here rest class older behind at = absurd (grind (arith, at))
none-by false here rest class older behind at = behind at

pub address-none : (places : List Place) (thread id : ℕ) → entry_in places thread id ≡ None
    → address_of thread id places ≡ 0
address-none [] thread id at = refl
address-none (taken class block ∷ older) thread id at =
    none-by (is_of thread id block) (end_of older) (address_of thread id older) class (entry_in older thread id)
    (address-none older thread id) at
address-none (empty class ∷ older) thread id at = address-none older thread id at

-- a free address that no other is below is the next one
next-is : (places : List Place) (class r : ℕ) → AreOnly places → is_free places class r ≡ true
    → ((b : ℕ) → is_free places class b ≡ true → r ≤ b) → next_address class places ≡ r
next-is places class r only free before =
    let below = free-below places class r only free in
    let le = least-le (end_of places) class r places free in
    let ge = least-ge (end_of places) class r places before (omega arith) in
    omega (arith, le, ge)

-- the next address is the least free one
pub next-free : (live : ℕ → ℕ → Option LiveEntry) (free : ℕ → ℕ → Bool) (end : ℕ) (places : List Place)
    (class first : ℕ)
    → AreOf live free end places → free class first ≡ true
    → ((b : ℕ) → free class b ≡ true → first ≤ b) → first ≡ next_address class places
next-free live free end places class first of held before =
    sym (next-is places class first of.only (sym (of.free_places class first) ∙ held)
    (λ b there. before b (of.free_places class b ∙ there)))

pub free-first : (live : ℕ → ℕ → Option LiveEntry) (free : ℕ → ℕ → Bool) (end : ℕ) (places : List Place)
    (class first : ℕ)
    → AreOf live free end places → free class first ≡ true → first < end
free-first live free end places class first of held =
    let below = free-below places class first of.only (sym (of.free_places class first) ∙ held) in
    omega (arith, below, of.end_is)

-- or the end, where no address of the class is free
pub next-end : (live : ℕ → ℕ → Option LiveEntry) (free : ℕ → ℕ → Bool) (end : ℕ) (places : List Place) (class : ℕ)
    → AreOf live free end places → ((b : ℕ) → free class b ≡ false)
    → end ≡ next_address class places
next-end live free end places class of none =
    of.end_is ∙ sym (least-none (end_of places) class places (λ a. sym (of.free_places class a) ∙ none a))

pub none-taken : (free more : ℕ → ℕ → Bool) (class end : ℕ) → ((b : ℕ) → free class b ≡ false)
    → ((c a : ℕ) → more c a ≡ free c a) → (c a : ℕ) → more c a ≡ cond (class == c && end == a) false (free c a)
none-taken free more class end none same c a = same c a ∙ by (class == c) (end == a) refl
  where
    by : (b d : Bool) → (class == c) ≡ b → free c a ≡ cond (b && d) false (free c a)
    by true true p = let here : class ≡ c = grind (arith, nat_tests, p) in sym (ap (λ (k : ℕ). free k a) here) ∙ none a
    by true false p = refl
    by false d p = refl

-- a heap that looks the same
pub of-same : (live later : ℕ → ℕ → Option LiveEntry) (free more : ℕ → ℕ → Bool) (end : ℕ) (places : List Place)
    → AreOf live free end places
    → ((t i : ℕ) → later t i ≡ live t i) → ((c a : ℕ) → more c a ≡ free c a) → AreOf later more end places
of-same live later free more end places of same_live same_free = record {
  live_blocks = λ t i. same_live t i ∙ of.live_blocks t i;
  free_places = λ c a. same_free c a ∙ of.free_places c a;
  end_is = of.end_is;
  only = of.only;
}

-- one of which the block of an ID is freed, where there is one
pub of-freed : (live later : ℕ → ℕ → Option LiveEntry) (free more : ℕ → ℕ → Bool) (end : ℕ) (places : List Place)
    (thread id : ℕ)
    → AreOf live free end places
    → IfSome (live thread id)
    (λ entry. (c a : ℕ) → more c a ≡ cond (entry.class == c && entry.address == a) true (free c a))
    → IfNone (live thread id) ((c a : ℕ) → more c a ≡ free c a)
    → ((t i : ℕ) → later t i ≡ cond (same thread id t i) None (live t i))
    → AreOf later more end (released thread id places)
of-freed live later free more end places thread id of some none gone = by (live thread id) refl some none
  where
    by : (found : Option LiveEntry) → live thread id ≡ found
        → IfSome found (λ entry. (c a : ℕ) → more c a ≡ cond (entry.class == c && entry.address == a) true (free c a))
        → IfNone found ((c a : ℕ) → more c a ≡ free c a) → AreOf later more end (released thread id places)
    by None at some none = of-kept live later free more end places thread id of at none gone
    by (Some entry) at some none = of-released live later free more end places thread id entry of at some gone

-- one into which a block is put once the block of its ID is freed
pub of-put : (live later : ℕ → ℕ → Option LiveEntry) (free more less : ℕ → ℕ → Bool) (end new_end : ℕ)
    (places : List Place) (thread id size address : ℕ)
    → AreOf live free end places
    → IfSome (live thread id)
    (λ entry. (c a : ℕ) → more c a ≡ cond (entry.class == c && entry.address == a) true (free c a))
    → IfNone (live thread id) ((c a : ℕ) → more c a ≡ free c a)
    → address ≡ next_address (class_of size) (released thread id places)
    → ((c a : ℕ) → less c a ≡ cond (class_of size == c && address == a) false (more c a))
    → ((t i : ℕ)
    → later t i ≡ cond (same thread id t i) (Some (record { address = address; class = class_of size })) (live t i))
    → new_end ≡ cond (address == end) (end + class_of size) end
    → AreOf later less new_end (placed (record { thread = thread; id = id; size = size }) (released thread id places))
of-put live later free more less end new_end places thread id size address of some none next took put grown =
    of-placed (λ t i. cond (same thread id t i) None (live t i)) later more less end new_end (released thread id places)
    (record { thread = thread; id = id; size = size }) address
    (of-freed live (λ t i. cond (same thread id t i) None (live t i)) free more end places thread id of some none
    (λ t i. refl))
    (itself (same thread id thread id) refl) next took (λ t i. put t i ∙ twice (same thread id t i) (live t i)) grown
  where
    itself : (b : Bool) → same thread id thread id ≡ b → cond b None (live thread id) ≡ None
    itself true p = refl
    itself false p = absurd (grind (arith, nat_tests, p))

    twice : (b : Bool) (found : Option LiveEntry)
        → cond b (Some (record { address = address; class = class_of size })) found
        ≡ cond b (Some (record { address = address; class = class_of size })) (cond b None found)
    twice true found = refl
    twice false found = refl

-- the end, which moves up where the block is put there
pub end-up : (end class : ℕ) → end + class ≡ cond (end == end) (end + class) end
end-up end class = by (end == end) refl
  where
    by : (b : Bool) → (end == end) ≡ b → end + class ≡ cond b (end + class) end
    by true p = refl
    by false p = absurd (grind (arith, nat_tests, p))

pub end-stays : (address end class : ℕ) → address < end → end ≡ cond (address == end) (end + class) end
end-stays address end class before = by (address == end) refl
  where
    by : (b : Bool) → (address == end) ≡ b → end ≡ cond b (end + class) end
    by true p = absurd (grind (arith, nat_tests, p, before))
    by false p = refl
