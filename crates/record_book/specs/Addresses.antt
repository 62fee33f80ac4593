-- The addresses of one class that have no live block, as a heap has them. The free addresses of one
-- class, the least of which is taken first; one that is put in is the only one that changes.
use Rattle.std.specs.Prelude.{◌≡◌, ℕ, ◌≤◌, ◌==◌, Bool, true, false, if◌then◌else◌, List}
use Rattle.std.specs.BinaryHeap.{heap_items}
use Rattle.std.specs.List.{list_any}
use Rattle.std.specs.Ordering.{nat_cmp}
use Rattle.std.specs.declared.cmp.Ordering.{Ordering}
use Rattle.std.specs.declared.cmp.Reverse.{Reverse}
use Rattle.std.specs.declared.collections.binary_heap.BinaryHeap.{BinaryHeap}

-- their order: the greatest one is the least address
abbrev pub address_cmp : Reverse ℕ → Reverse ℕ → Ordering
address_cmp x y = nat_cmp y.0 x.0

-- whether two are equal
abbrev pub same_address : Reverse ℕ → Reverse ℕ → Bool
same_address x y = x.0 == y.0

-- the address is among them
abbrev pub has_address : List (Reverse ℕ) → ℕ → Bool
has_address addresses address = list_any (λ x. x.0 == address) addresses

-- the same of a heap
abbrev pub is_in : {Z : Type 0} → BinaryHeap (Reverse ℕ) Z → ℕ → Bool
is_in heap address = has_address (heap_items heap) address

-- the same addresses are in
abbrev pub HasSame : {Z : Type 0} → BinaryHeap (Reverse ℕ) Z → BinaryHeap (Reverse ℕ) Z → Type 0
HasSame old new = (a : ℕ) → is_in new a ≡ is_in old a

-- an address was put in
abbrev pub PutsIn : {Z : Type 0} → BinaryHeap (Reverse ℕ) Z → BinaryHeap (Reverse ℕ) Z → ℕ → Type 0
PutsIn old new address = (a : ℕ) → is_in new a ≡ (if address == a then true else is_in old a)

-- of those that pass a test, the least one was taken out
pub record TakesLeast (old new : ℕ → Bool) (least : ℕ) : Type 0 where
  pub held : old least ≡ true
  pub first : (address : ℕ) → old address ≡ true → least ≤ address
  pub left : (address : ℕ)
      → new address ≡ (if least == address then false else old address)
