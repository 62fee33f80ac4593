-- What the code reads of a block, for private clauses: its ID, its size, and the text of its pointers
-- behind them.
use Rattle.std.specs.Prelude.{ℕ, List, Option}
use Rattle.ht_lines.specs.Fields.{numbers}
use Rattle.record_scripts.specs.declared.script_line.Block.{Block}
use Rattle.record_scripts.specs.ScriptLine.{block_read}

-- a block with the numbers of a text
abbrev pub sized_said : Block → List ℕ → ℕ × ℕ × List ℕ
sized_said block text = (block.id, block.size, numbers text)

-- the same, where these are ips
abbrev pub block_said : Block → List ℕ → Option (ℕ × ℕ × List ℕ)
block_said block text = block_read block.id block.size (numbers text)
