-- Where live blocks lie, as the code keeps them. The live block of a thread's ID stands in a table,
-- where the ID is below 1,024, or else among the others. A block that is put in or taken out is the
-- only one that changes.
use Rattle.std.specs.Prelude.{ℕ, ◌+◌, ◌*◌, ◌<◌, ◌==◌, ◌&&◌, Bool, if◌then◌else◌, List, length, get_or, nat_lt, Option}
use Rattle.std.specs.Prelude.{None, ◌≡◌, true}
use Rattle.std.specs.HashMap.{get, spare}
use Rattle.record_book.specs.declared.live_blocks.LiveBlocks.{LiveBlocks}
use Rattle.record_book.specs.declared.live_blocks.LiveEntry.{LiveEntry}

-- the place of a thread's ID in a table, and whether a table of so many places has it
abbrev pub place_of : ℕ → ℕ → ℕ
place_of thread id = thread * 1024 + id

abbrev pub is_low : ℕ → ℕ → ℕ → Bool
is_low len thread id = nat_lt id 1024 && nat_lt (place_of thread id) len

-- whether two keys, each a thread and an ID, are equal
abbrev pub same_key : ℕ × ℕ → ℕ × ℕ → Bool
same_key x y = x.0 == y.0 && x.1 == y.1

-- the live block of a thread's ID: it stands in the table, or among the others
abbrev pub found_in : List (Option LiveEntry) → (ℕ → ℕ → Option LiveEntry) → ℕ → ℕ
    → Option LiveEntry
found_in low high thread id = if is_low (length low) thread id
    then get_or low (place_of thread id) None else high thread id

abbrev pub block_at : LiveBlocks → ℕ → ℕ → Option LiveEntry
block_at blocks thread id = found_in blocks.low.items (λ t i. get same_key blocks.high (t, i))
    thread id

-- the same blocks are live
abbrev pub HasSameBlocks : LiveBlocks → LiveBlocks → Type 0
HasSameBlocks old new = (t i : ℕ) → block_at new t i ≡ block_at old t i

-- the live block of a thread's ID is now this one, or none is
abbrev pub SetsBlock : LiveBlocks → LiveBlocks → ℕ → ℕ → Option LiveEntry → Type 0
SetsBlock old new thread id entry = (t i : ℕ) → block_at new t i
    ≡ (if thread == t && id == i then entry else block_at old t i)

-- the table has a place for a thread's ID, which is this one
pub record IsPlaceIn (blocks : LiveBlocks) (thread id place : ℕ) : Type 0 where
  pub place_is : place ≡ place_of thread id
  pub within : place < length blocks.low.items
  pub low : is_low (length blocks.low.items) thread id ≡ true

-- there is room for one block more
abbrev pub HasRoom : LiveBlocks → Type 0
HasRoom blocks = 0 < spare blocks.high
