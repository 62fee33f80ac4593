-- What an entry of a turn says.
use Rattle.std.specs.Prelude.{ℕ, ◌+◌, ◌*◌, ◌^◌}
use Rattle.record_scripts.specs.declared.script_line.ScriptLine.{ScriptLine}
use Rattle.record_scripts.specs.declared.script_line.ScriptLine.TheVariants.{Allocation as AllocationLine}
use Rattle.record_scripts.specs.declared.script_line.ScriptLine.TheVariants.{Free as FreeLine}
use Rattle.record_scripts.specs.declared.script_line.ScriptLine.TheVariants.{Reallocation as ReallocationLine}
use Rattle.record_scripts.specs.declared.turn_entry.TurnEntry.{TurnEntry}
use Rattle.record_scripts.specs.declared.turn_entry.TurnKind.{TurnKind}
use Rattle.record_scripts.specs.declared.turn_entry.TurnKind.TheVariants.{Allocation, Free, Reallocation}

-- the number of two parts, the lower of which has 32 bits
abbrev pub wide : ℕ → ℕ → ℕ
wide low high = low + 2 ^ 32 * high

-- the line of a kind
abbrev pub line_of_kind : TurnKind → ℕ → ℕ → ScriptLine
line_of_kind Allocation id size = AllocationLine id size
line_of_kind Free id size = FreeLine id
line_of_kind Reallocation id size = ReallocationLine id size

-- the line that an entry keeps, but for its ips
abbrev pub line_kept : TurnEntry → ScriptLine
line_kept entry = line_of_kind entry.kind (wide entry.id_low entry.id_high)
    (wide entry.size_low entry.size_high)
