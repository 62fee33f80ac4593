-- What a line brings to those who keep figures beside the tables.
use Rattle.std.specs.Prelude.{ℕ, List, Option, None, Some, slice_get, Result, Ok, Err}
use Rattle.std.specs.Option.{option_map}
use Rattle.ht_lines.specs.declared.item.Malformed.{Malformed}
use Rattle.ht_lines.specs.Content.{Content, node_line, info_line, allocation_line, free_line, clock_line}
use Rattle.ht_lines.specs.declared.item.Form.TheVariants.{Interpreted}
use Rattle.ht_lines.specs.Reading.{reading}
use Rattle.live_ledger.specs.declared.event.Event.{Event}
use Rattle.live_ledger.specs.declared.event.Event.TheVariants.{Alloc, Free, Tick}
use Rattle.live_ledger.specs.LedgerState.{HeldInfo}
use Rattle.ht_trace.specs.declared.step.Step.{Step}
use Rattle.ht_trace.specs.declared.step.Step.TheVariants as step
use Rattle.ht_trace.specs.Contents.{contents, file_version}
use Rattle.ht_trace.specs.TraceLists.{infos}

-- the event of what a line says: an allocation or a free of one of these infos, or a clock value
abbrev pub event_in : List HeldInfo → Content → Option Event
event_in held (allocation_line info) = option_map (λ found. Alloc info found.stack found.size)
    (slice_get held info)
event_in held (free_line info) = option_map (λ found. Free info found.stack found.size)
    (slice_get held info)
event_in held (clock_line ms) = Some (Tick ms)
event_in held _ = None

-- the event as a step
abbrev pub event_step : Option Event → Step
event_step None = step.Nothing
event_step (Some event) = step.Event event

-- a node is one more stack, an info comes with its stack and size, and every other line brings its event, if it has one
abbrev pub step_in : List HeldInfo → Content → Step
step_in held (node_line instruction parent) = step.Stack
step_in held (info_line size trace) = step.Info trace size
step_in held said = event_step (event_in held said)

-- what a line brings that is read as this
abbrev pub reading_step : List HeldInfo → Result Content Malformed → Step
reading_step held (Ok said) = step_in held said
reading_step held (Err fault) = step.Nothing

-- what a line brings after earlier lines, where it has no fault
abbrev pub step_of : List (List ℕ) → List ℕ → Step
step_of earlier line = reading_step (infos (contents earlier))
    (reading Interpreted (file_version earlier) line)

-- the event that a step brings
abbrev pub event_of : Step → Option Event
event_of step.Nothing = None
event_of step.Stack = None
event_of (step.Info stack size) = None
event_of (step.Event event) = Some event
