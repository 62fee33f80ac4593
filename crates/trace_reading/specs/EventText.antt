-- The line of an event: its kind, a blank, and the number of its info. Where the info isn't held,
-- its fault is that, but for a version line, which must stand before it.
use Rattle.std.specs.Prelude.{ℕ, List, ◌∷◌, Option, is_some, if◌then◌else◌}
use Rattle.hp_num.specs.Hexadecimal.{hexadecimal}
use Rattle.ht_lines.specs.declared.event.EventKind.{EventKind}
use Rattle.ht_lines.specs.EventLine.{event_byte}
use Rattle.ht_trace.specs.declared.error.LineError.{LineError}
use Rattle.ht_trace.specs.declared.error.LineError.TheVariants.{NoVersion, UnknownAllocation}

-- the line, without a line feed
abbrev pub event_text : EventKind → ℕ → List ℕ
event_text kind info = event_byte kind ∷ 32 ∷ hexadecimal info

-- its fault where its info isn't held, by the file version, where a version line was read
abbrev pub unheld_fault : Option ℕ → LineError
unheld_fault version = if is_some version then UnknownAllocation else NoVersion
