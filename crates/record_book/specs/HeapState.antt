-- What the heap of the code has: a live block's place by thread and ID, the free places, and the
-- end; what a block that is put or freed changes of it.
use Rattle.std.specs.Prelude.{◌≡◌, ℕ, ◌+◌, ◌^◌, ◌<◌, ◌≤◌, ◌==◌, ◌&&◌, ◌||◌, Bool, true, false, if◌then◌else◌, List, []}
use Rattle.std.specs.Prelude.{◌∷◌, Option, None, Some, nat_eq, IfSome}
use Rattle.std.specs.BinaryHeap.{heap_items}
use Rattle.std.specs.HashMap.{get}
use Rattle.record_book.specs.declared.free_addresses.FreeAddresses.{FreeAddresses}
use Rattle.record_book.specs.declared.free_places.FreePlaces.{FreePlaces}
use Rattle.record_book.specs.declared.heap.Heap.{Heap}
use Rattle.record_book.specs.declared.live_blocks.LiveEntry.{LiveEntry}
use Rattle.record_book.specs.Addresses.{has_address}
use Rattle.record_book.specs.LiveBlocks.{block_at}
use Rattle.record_book.specs.HeapPlaces.{Place, taken, empty, address_of, class_of, end_of, is_of, next_address, placed}
use Rattle.record_book.specs.HeapPlaces.{released}

-- the address is among those of a class, of which there may be none
abbrev pub is_among : Option FreeAddresses → ℕ → Bool
is_among None address = false
is_among (Some addresses) address = has_address (heap_items addresses.heap) address

-- the place is among them
abbrev pub has_place : FreePlaces → ℕ → ℕ → Bool
has_place free class address = is_among (get nat_eq free.classes class) address

-- the same places are there
abbrev pub HasSamePlaces : FreePlaces → FreePlaces → Type 0
HasSamePlaces old new = (c a : ℕ) → has_place new c a ≡ has_place old c a

-- a place was put in
abbrev pub PutsPlace : FreePlaces → FreePlaces → ℕ → ℕ → Type 0
PutsPlace old new class address = (c a : ℕ) → has_place new c a
    ≡ (if class == c && address == a then true else has_place old c a)

-- where a block was live, its place was put in
abbrev pub PutsPlaceOf : FreePlaces → FreePlaces → Option LiveEntry → Type 0
PutsPlaceOf old new left = IfSome left (λ entry. PutsPlace old new entry.class entry.address)

-- the place of a class with the least address was taken out
pub record TakesFirst (old new : FreePlaces) (class address : ℕ) : Type 0 where
  pub held : has_place old class address ≡ true
  pub first : (other : ℕ) → has_place old class other ≡ true → address ≤ other
  pub left : (c a : ℕ) → has_place new c a
      ≡ (if class == c && address == a then false else has_place old c a)

-- the live block that is kept for a thread's ID
abbrev pub entry_at : Heap → ℕ → ℕ → Option LiveEntry
entry_at heap thread id = block_at heap.live thread id

-- the live block of a thread's ID, as the heap keeps it
abbrev pub entry_in : List Place → ℕ → ℕ → Option LiveEntry
entry_in [] thread id = None
entry_in (taken class block ∷ older) thread id = if is_of thread id block
    then Some (record { address = end_of older; class = class }) else entry_in older thread id
entry_in (empty class ∷ older) thread id = entry_in older thread id

-- whether a place of the class lies at the address and has no live block
abbrev pub is_free : List Place → ℕ → ℕ → Bool
is_free [] class address = false
is_free (taken other block ∷ older) class address = is_free older class address
is_free (empty other ∷ older) class address = (other == class && end_of older == address)
    || is_free older class address

-- each block fits its place, and is the only one of its thread's ID
abbrev pub AreOnly : List Place → Type 0
AreOnly [] = Unit {0}
AreOnly (taken class block ∷ older) = (0 < class) × (class ≡ class_of block.size)
    × (entry_in older block.thread block.id ≡ None) × AreOnly older
AreOnly (empty class ∷ older) = (0 < class) × AreOnly older

-- live blocks, free places and an end are those of places
pub record AreOf (live : ℕ → ℕ → Option LiveEntry) (free : ℕ → ℕ → Bool) (end : ℕ)
    (places : List Place) : Type 0 where
  pub live_blocks : (thread id : ℕ) → live thread id ≡ entry_in places thread id
  pub free_places : (class address : ℕ) → free class address ≡ is_free places class address
  pub end_is : end ≡ end_of places
  pub only : AreOnly places

-- the heap is that of the places
abbrev pub IsHeap : Heap → List Place → Type 0
IsHeap heap places = AreOf (entry_at heap) (has_place heap.free) heap.end places

-- the heap is that of some places, and there is space for one more behind them
pub record HasSpace (heap : Heap) : Type 0 where
  pub places : List Place
  pub heap_is : IsHeap heap places
  pub end_is : heap.end + 2 ^ 33 ≤ 2 ^ 63

-- the second heap is that of the same places
pub record IsSameHeap (old new : Heap) : Type 0 where
  pub places_are : (places : List Place) → IsHeap old places → IsHeap new places
  pub end_is : new.end ≡ old.end

-- the next address of a class in places was taken, and its block is still to be put there
pub record TakesNext (old new : Heap) (class : ℕ) (places : List Place) (address : ℕ) : Type 0
  where
    pub next : address ≡ next_address class places
    pub left : (c a : ℕ) → has_place new.free c a
        ≡ (if class == c && address == a then false else has_place old.free c a)
    pub end_is : new.end ≡ (if address == old.end then old.end + class else old.end)

-- the same, of whatever places the heap has
abbrev pub TakesAddress : Heap → Heap → ℕ → ℕ → Type 0
TakesAddress old new class address = (live : ℕ → ℕ → Option LiveEntry) (places : List Place)
    → AreOf live (has_place old.free) old.end places → TakesNext old new class places address

-- the address of every block that a heap keeps so, which is 0 where it keeps none
abbrev pub IsAddressOf : Option LiveEntry → ℕ → Type 0
IsAddressOf left address = (heap : Heap) (places : List Place) (thread id : ℕ)
    → IsHeap heap places → left ≡ entry_at heap thread id → address ≡ address_of thread id places

-- a block was put at an address, in the place of the live one of its ID
pub record PutsBlock (old new : Heap) (thread id size address : ℕ) : Type 0 where
  pub address_is : (places : List Place) → IsHeap old places
      → address ≡ next_address (class_of size) (released thread id places)
  pub places_are : (places : List Place) → IsHeap old places
      → IsHeap new (placed (record { thread = thread; id = id; size = size })
      (released thread id places))

-- the block of an ID was freed, which lay at the address
pub record FreesBlock (old new : Heap) (thread id address : ℕ) : Type 0 where
  pub address_is : (places : List Place) → IsHeap old places
      → address ≡ address_of thread id places
  pub places_are : (places : List Place) → IsHeap old places
      → IsHeap new (released thread id places)
