-- The blocks of a raw trace, and the pointers that stand for them. The last line that names a
-- pointer tells what it stands for: the block of an allocation, and nothing behind a free.
use Rattle.std.specs.Prelude.{ℕ, ◌==◌, List, [], ◌∷◌, if◌then◌else◌, length, reverse, Option, Some, None}
use Rattle.std.specs.Option.{option_map}
use Rattle.ht_lines.specs.Content.{Content, raw_allocation_line, raw_free_line}
use Rattle.interpret.specs.declared.infos.AllocationInfo.{AllocationInfo}
use Rattle.interpret.specs.RawTables.{info_number}

-- a block: the place of its line among those that say something, from 0, and its size and node
pub record RawBlock : Type 0 where
  pub place : ℕ
  pub info : AllocationInfo

-- for what the lines say from the last to the first: the last line that names the pointer tells what it stands for
abbrev pub held_back : List Content → ℕ → Option RawBlock
held_back [] ptr = None
held_back (raw_allocation_line size trace named ∷ before) ptr =
    if named == ptr then Some
    (record { place = length before; info = record { size = size; trace = trace } })
    else held_back before ptr
held_back (raw_free_line named ∷ before) ptr = if named == ptr then None else held_back before ptr
held_back (said ∷ before) ptr = held_back before ptr

-- the block that a pointer stands for after the lines, if it stands for one
unfoldable pub held : List Content → ℕ → Option RawBlock
held said ptr = held_back (reverse said) ptr

-- the block that a line frees
abbrev pub freed_by : List Content → Content → Option RawBlock
freed_by earlier (raw_free_line ptr) = held earlier ptr
freed_by earlier _ = None

-- the number of its info
abbrev pub freed_info : List AllocationInfo → Option RawBlock → Option ℕ
freed_info infos block = option_map (λ block. info_number infos block.info) block
