-- What the blocks of a raw trace allocate and free at a node, and what stays live. A raw block is
-- live where no line frees it. At every node the interpreted lines leave the bytes and the blocks
-- live that the raw ones do. At every node the interpreted trace has the instruction pointers of
-- the raw one.
use Rattle.std.specs.Prelude.{◌≡◌, ℕ, ◌==◌, Bool, not, List, [], if◌then◌else◌, filter, length, count_by, sum_by, map}
use Rattle.std.specs.Prelude.{Option, Some, None}
use Rattle.std.specs.List.{list_any}
use Rattle.ht_lines.specs.Content.{Content, raw_allocation_line}
use Rattle.ht_trace.specs.Gathered.{gathered}
use Rattle.live_ledger.specs.InStack.{blocks_in, live_in}
use Rattle.interpret.specs.InterpretedSaid.{interpreted_events, interpreted_said}
use Rattle.interpret.specs.IpLists.{interpreted_ips, raw_ips}
use Rattle.interpret.specs.RawBlocks.{RawBlock, freed_by}
use Rattle.interpret.specs.SymbolLine.{Symbol}

-- the block of a line
abbrev pub block_in : List Content → Content → Option RawBlock
block_in earlier (raw_allocation_line size trace ptr) = Some
    (record { place = length earlier; info = record { size = size; trace = trace } })
block_in earlier _ = None

-- the blocks of all allocations, and those that a line frees
unfoldable pub blocks : List Content → List RawBlock
blocks said = gathered block_in [] said

unfoldable pub freed : List Content → List RawBlock
freed said = gathered freed_by [] said

-- the blocks that no line frees
abbrev pub is_freed : List RawBlock → RawBlock → Bool
is_freed gone block = list_any (λ other. other.place == block.place) gone

unfoldable pub live_blocks : List Content → List RawBlock
live_blocks said = filter (λ block. not (is_freed (freed said) block)) (blocks said)

-- how many of some blocks are of a node, and their bytes
abbrev pub is_of : ℕ → RawBlock → Bool
is_of node block = block.info.trace == node

abbrev pub bytes_of : ℕ → RawBlock → ℕ
bytes_of node block = if block.info.trace == node then block.info.size else 0

-- at every node the interpreted lines leave the bytes and the blocks live that the raw ones do, and
-- its instruction pointers outwards are the same
pub record KeepsLedger (symbols : List Symbol) (said : List Content) : Type 0 where
  pub bytes : (node : ℕ)
      → live_in node (interpreted_events symbols said) ≡ sum_by (bytes_of node) (live_blocks said)
  pub blocks : (node : ℕ)
      → blocks_in node (interpreted_events symbols said) ≡ count_by (is_of node) (live_blocks said)
  pub stacks : (node : ℕ)
      → interpreted_ips (interpreted_said symbols said) node ≡ map Some (raw_ips said node)
