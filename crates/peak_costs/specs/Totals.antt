-- The total after each number of events. The totals of a trace are its live bytes after no event,
-- after one, and so on to after all.
use Rattle.std.specs.Prelude.{ℕ, ◌+◌, List, length, map, take}
use Rattle.std.specs.List.{range_with_len}
use Rattle.live_ledger.specs.declared.event.Event.{Event}
use Rattle.live_ledger.specs.LiveBytes.{live_bytes}

-- the bytes that are live after the first k events
abbrev pub total : List Event → ℕ → ℕ
total events k = live_bytes (take k events)

-- the totals after no event, after one, and so on to after all of them
abbrev pub totals : List Event → List ℕ
totals events = map (total events) (range_with_len 0 (length events + 1))
