-- Where blocks lie. Places are handed out one behind the other, and one whose block was freed may
-- be handed out again. The class of a size is the size rounded up to a multiple of 16, at least 16.
-- A block gets the least address that was handed out for its class and isn't live, else one behind
-- all that were handed out, from hexadecimal 10000 on.
use Rattle.std.specs.Prelude.{ℕ, ◌+◌, ◌*◌, ◌/◌, ◌≤◌, Bool, ◌==◌, ◌&&◌, if◌then◌else◌, max, min, List, [], ◌∷◌}
use Rattle.std.specs.List.{AllByRecursion}
use Rattle.record_scripts.specs.Events.{Event, allocation, free}
use Rattle.record_scripts.specs.Turns.{Turn}
use Rattle.record_book.specs.Actions.{Action, actions}

-- a block: the thread that allocates it, its ID there, and its size in bytes
pub record Block : Type 0 where
  pub thread : ℕ
  pub id : ℕ
  pub size : ℕ

-- a place of a class, which is how many bytes it spans: a live block is there, or none
pub data Place : Type 0 where
  taken : (class : ℕ) (block : Block) → Place
  empty : (class : ℕ) → Place

-- the class of a size: the size rounded up to a multiple of 16, and at least 16
abbrev pub class_of : ℕ → ℕ
class_of size = (max size 1 + 15) / 16 * 16

-- for places listed from the last to the first: the address behind all of them. The first one lies
-- at hexadecimal 10000, and each other at the address behind the older ones
abbrev pub end_of : List Place → ℕ
end_of [] = 65536
end_of (taken class block ∷ older) = end_of older + class
end_of (empty class ∷ older) = end_of older + class

-- the addresses of the places of a class that have no live block
abbrev pub free_addresses : ℕ → List Place → List ℕ
free_addresses class [] = []
free_addresses class (taken other block ∷ older) = free_addresses class older
free_addresses class (empty other ∷ older) = if other == class
    then end_of older ∷ free_addresses class older else free_addresses class older

-- the least of a number and others
abbrev pub least : ℕ → List ℕ → ℕ
least n [] = n
least n (m ∷ more) = min m (least n more)

-- the address of the next block of a class: the least that was handed out for it and isn't live, and else a fresh one
abbrev pub next_address : ℕ → List Place → ℕ
next_address class places = least (end_of places) (free_addresses class places)

-- the places with the block at the address, where one is empty
abbrev pub placed_at : ℕ → Block → List Place → List Place
placed_at address block [] = []
placed_at address block (taken class other ∷ older) = taken class other
    ∷ placed_at address block older
placed_at address block (empty class ∷ older) =
    if end_of older == address then taken class block ∷ older
    else empty class ∷ placed_at address block older

-- the places with the block at the next address of its class
abbrev pub placed : Block → List Place → List Place
placed block places =
    let class = class_of block.size in
    let address = next_address class places in
    if address == end_of places then taken class block ∷ places else placed_at address block places

-- whether the block has a thread's ID
abbrev pub is_of : ℕ → ℕ → Block → Bool
is_of thread id block = block.thread == thread && block.id == id

-- the places without the block of a thread's ID
abbrev pub released : ℕ → ℕ → List Place → List Place
released thread id [] = []
released thread id (taken class block ∷ older)
    = (if is_of thread id block then empty class else taken class block) ∷ released thread id older
released thread id (empty class ∷ older) = empty class ∷ released thread id older

-- the address of the live block of a thread's ID; 0 where there is none, which no free of a script meets
abbrev pub address_of : ℕ → ℕ → List Place → ℕ
address_of thread id [] = 0
address_of thread id (taken class block ∷ older) = if is_of thread id block then end_of older
    else address_of thread id older
address_of thread id (empty class ∷ older) = address_of thread id older

-- the places after an event. An allocation takes the place of a live block of the same ID, which none in a script does
abbrev pub places_with : ℕ → Event → List Place → List Place
places_with thread (allocation id size ips) places = placed
    (record { thread = thread; id = id; size = size }) (released thread id places)
places_with thread (free id rejoined) places = released thread id places

-- the places after actions that are listed from the last to the first
abbrev pub places_after : List Action → List Place
places_after [] = []
places_after (action ∷ before) = places_with action.thread action.event (places_after before)

-- a live block at its address
pub record LiveBlock : Type 0 where
  pub address : ℕ
  pub block : Block

-- the live blocks, the one with the greatest address first
abbrev pub live_blocks : List Place → List LiveBlock
live_blocks [] = []
live_blocks (taken class block ∷ older) = record { address = end_of older; block = block }
    ∷ live_blocks older
live_blocks (empty class ∷ older) = live_blocks older

-- no two blocks overlap: each begins at or behind the end of those with lesser addresses
abbrev pub AreApart : List LiveBlock → Type 0
AreApart [] = Unit {0}
AreApart (block ∷ older) = AllByRecursion
    (λ other. other.address + other.block.size ≤ block.address) older × AreApart older

-- no two of the blocks overlap that are live behind an order
abbrev pub LieApart : List (List Turn) → List ℕ → Type 0
LieApart scripts order = AreApart (live_blocks (places_after (actions scripts order)))
