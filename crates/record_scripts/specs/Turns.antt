-- The turns of a script. A turn allocates a block of so many bytes under an ID, by a stack from the
-- innermost instruction pointer outwards; or frees the block with an ID; or frees it and allocates
-- another under the same ID. A block is live after turns where the last of them that names its ID
-- isn't its free. A block has at most 2^32 bytes, and its stack at most 256 pointers.
use Rattle.std.specs.Prelude.{ℕ, ◌^◌, ◌≤◌, Bool, true, false, ◌==◌, if◌then◌else◌, List, [], ◌∷◌, length, reverse}
use Rattle.std.specs.Prelude.{slice_get, unwrap_or}
use Rattle.std.specs.List.{AllByRecursion}

-- what a thread does in one turn: it allocates a block of so many bytes under an ID, by a stack that is listed from the
-- innermost instruction pointer outwards; it frees the block with the ID; or it does both, one after the other
pub data Turn : Type 0 where
  allocates : (id size : ℕ) (ips : List ℕ) → Turn
  frees : (id : ℕ) → Turn
  reallocates : (id size : ℕ) (ips : List ℕ) → Turn

-- for turns listed from the last to the first, whether the block with the ID is live after them:
-- the last turn that names it leaves it live
abbrev pub is_live_after : List Turn → ℕ → Bool
is_live_after [] id = false
is_live_after (allocates other size ips ∷ before) id = if other == id then true
    else is_live_after before id
is_live_after (frees other ∷ before) id = if other == id then false else is_live_after before id
is_live_after (reallocates other size ips ∷ before) id = if other == id then true
    else is_live_after before id

-- whether the block with the ID is live after the turns of a script
abbrev pub is_live : List Turn → ℕ → Bool
is_live turns id = is_live_after (reverse turns) id

-- a block has at most 2^32 bytes, and its stack at most 256 instruction pointers
abbrev pub IsBounded : Turn → Type 0
IsBounded (allocates id size ips) = (size ≤ 2 ^ 32) × (length ips ≤ 256)
IsBounded (frees id) = Unit {0}
IsBounded (reallocates id size ips) = (size ≤ 2 ^ 32) × (length ips ≤ 256)

-- the same of each turn of each script
abbrev pub AreBounded : List (List Turn) → Type 0
AreBounded scripts = AllByRecursion (λ script. AllByRecursion IsBounded script) scripts

-- the script of a thread, which is empty where there is no such thread
abbrev pub script_at : List (List Turn) → ℕ → List Turn
script_at scripts thread = unwrap_or (slice_get scripts thread) []
