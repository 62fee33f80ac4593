-- The events of a trace. The events are those of the `+`, `-` and `c` lines, each with the stack
-- and the size of the info that it names.
use Rattle.std.specs.Prelude.{ℕ, List, []}
use Rattle.live_ledger.specs.declared.event.Event.{Event}
use Rattle.ht_trace.specs.Contents.{contents}
use Rattle.ht_trace.specs.Gathered.{gathered}
use Rattle.ht_trace.specs.TraceLists.{infos}
use Rattle.ht_trace.specs.StepOf.{event_in}

-- the allocations, frees and clock values in the order of their lines, each with the stack and size of its info,
-- which is one of those before it
abbrev pub events : List (List ℕ) → List Event
events lines = gathered (λ earlier. event_in (infos earlier)) [] (contents lines)
