-- Lines were read behind patterns where the tables stand for them, after texts of suppressions that
-- have those patterns, and the follower stands for their events. One line, also that of an event at
-- the front of bytes, was read where it has no fault and stands behind all that was read before.
use Rattle.std.specs.Prelude.{◌≡◌, ℕ, ◌+◌, ◌*◌, ◌^◌, ◌≤◌, List, [], ◌∷◌, ◌++◌, length, None, Option, unwrap_or}
use Rattle.live_ledger.specs.declared.event.Event.{Event}
use Rattle.ht_trace.specs.LedgerFits.{IsBeside}
use Rattle.ht_trace.specs.Pattern.{patterns_of}
use Rattle.ht_trace.specs.StandsFor.{StandsAfter}
use Rattle.ht_trace.specs.TableState.{TableState}
use Rattle.ht_trace.specs.TraceEvents.{events}
use Rattle.command_frame.specs.Batch.{TakesFirst}
use Rattle.trace_reading.specs.Following.{Following}
use Rattle.trace_reading.specs.TraceReport.{EventFaults, content_fault, trace_report}

-- what the lines that were read take at least
abbrev pub measure_of : TableState → Following → ℕ
measure_of tables follower = 4 * follower.ledger.totals.events + length tables.nodes

-- the follower has the stacks and infos of the tables and stands for some events beside them, and
-- the lines may be those of a file
pub record IsSound (tables : TableState) (follower : Following) : Type 0 where
  pub beside : IsBeside tables follower.ledger
  pub follower_sound : follower.sound
  pub taken : List Event
  pub stands : follower.stands tables taken
  pub few : measure_of tables follower ≤ 2 ^ 34 + 1

-- the tables stand for these lines, behind texts of suppressions that have the patterns, and the
-- follower for their events
pub record HasRead (tables : TableState) (follower : Following) (patterns lines : List (List ℕ))
    : Type 0 where
  pub given : List (List ℕ)
  pub patterns_are : patterns ≡ patterns_of given
  pub tables_of : StandsAfter tables given lines
  pub stands : follower.stands tables (events lines)

-- these bytes are the text of the lines that were read, behind the patterns that were given before them
abbrev pub IsTextOfRead : (List (List ℕ) → List (List ℕ) → List ℕ) → TableState → Following
    → List ℕ → Type 0
IsTextOfRead text tables follower bytes =
    (given lines : List (List ℕ)) → StandsAfter tables given lines
    → follower.stands tables (events lines) → bytes ≡ text (patterns_of given) lines

-- a line was read, which had no fault
pub record HasReadLine (faults : EventFaults) (tables : TableState) (follower : Following)
    (grown : TableState) (grown_follower : Following) (line : List ℕ) : Type 0 where
  pub sound : IsSound grown grown_follower
  pub measure : measure_of grown grown_follower ≤ measure_of tables follower + length line + 1
  pub no_fault : (patterns lines : List (List ℕ)) → HasRead tables follower patterns lines
      → content_fault faults patterns lines line ≡ None
  pub read : (patterns lines : List (List ℕ)) → HasRead tables follower patterns lines
      → HasRead grown grown_follower patterns (lines ++ line ∷ [])

-- an answer of so many bytes says that the first line of these bytes is that of an event, and was
-- read without a fault, and no answer that none was read. Whatever is written of the trace, the
-- line gives nothing
pub record HasReadFirst (faults : EventFaults) (tables : TableState) (old new : Following)
    (ready : List ℕ) (answer : Option ℕ) : Type 0 where
  pub sound : IsSound tables new
  pub held : unwrap_or answer 0 ≤ length ready
  pub measure : measure_of tables new ≤ measure_of tables old + unwrap_or answer 0
  pub taken : (patterns : List (List ℕ)) (text : List (List ℕ) → List ℕ) (output : List ℕ)
      → TakesFirst (trace_report faults patterns text) (HasRead tables old patterns)
      (HasRead tables new patterns) ready output output answer
