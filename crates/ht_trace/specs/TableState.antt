-- What contracts see of the tables of a trace.
use Rattle.std.specs.Prelude.{ℕ, List, [], ◌++◌, Option}
use Rattle.stack_table.specs.Node.{Node}
use Rattle.live_ledger.specs.LedgerState.{HeldInfo}
use Rattle.ht_trace.specs.Contents.{contents, version_of}
use Rattle.ht_trace.specs.Instruction.{Instruction}
use Rattle.ht_trace.specs.Pattern.{patterns_of}
use Rattle.ht_trace.specs.TraceLists as lists

-- the file version, where a version line was read, the lists by their numbers, and the command, where there was one;
-- patterns are those of suppressions
pub record TableState : Type 0 where
  pub version : Option ℕ
  pub strings : List (List ℕ)
  pub instructions : List Instruction
  pub nodes : List Node
  pub infos : List HeldInfo
  pub command : Option (List ℕ)
  pub patterns : List (List ℕ)

-- the tables of a trace with these lines, whose suppressions stand after those of the texts that were given before
abbrev pub tables_after : List (List ℕ) → List (List ℕ) → TableState
tables_after given lines = record {
  version = version_of lines;
  strings = lists.strings (contents lines);
  instructions = lists.instructions (contents lines);
  nodes = lists.nodes (contents lines);
  infos = lists.infos (contents lines);
  command = lists.command (contents lines);
  patterns = patterns_of given ++ lists.patterns (contents lines);
}

-- the same where none were given
abbrev pub tables_of : List (List ℕ) → TableState
tables_of lines = tables_after [] lines
