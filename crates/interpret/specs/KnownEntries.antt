-- How instruction pointers are kept, for private clauses.
use Rattle.std.specs.Prelude.{ℕ}
use Rattle.interpret.specs.RawTables.{KnownIp}

-- the instruction pointer that an entry keeps
abbrev pub known_kept : ℕ × ℕ → KnownIp
known_kept entry = record { ip = entry.0; frames = entry.1 }
