-- What follows the events of a trace has a ledger, and stands for lists of events beside tables; it
-- took what a line brings where it stands for the events with that of the line, and has the stacks
-- and infos more.
use Rattle.std.specs.Prelude.{◌≡◌, ℕ, ◌+◌, ◌*◌, ◌^◌, ◌≤◌, List, [], ◌++◌, length, Option, None, Some, Result, Ok, Err}
use Rattle.std.specs.Option.{option_to_list}
use Rattle.live_ledger.specs.declared.event.Event.{Event}
use Rattle.live_ledger.specs.declared.event.EventFault.{EventFault}
use Rattle.live_ledger.specs.LedgerState.{LedgerState}
use Rattle.ht_trace.specs.Continues.{Continues}
use Rattle.ht_trace.specs.HeldStack.{HasHeldStack}
use Rattle.ht_trace.specs.LedgerFits.{CanTake, infos_in, least_length, stacks_in}
use Rattle.ht_trace.specs.StepOf.{event_of}
use Rattle.ht_trace.specs.TableState.{TableState}
use Rattle.ht_trace.specs.declared.step.Step.{Step}
use Rattle.ht_trace.specs.declared.step.Step.TheVariants as step
use Rattle.command_frame.specs.declared.taker.LineRefusal.{LineRefusal}
use Rattle.command_frame.specs.declared.taker.LineRefusal.TheVariants.{Fault, NoMemory}

-- a follower: the ledger that it has, the lists of events that it stands for beside tables, and what always holds of it
pub record Following : Type 1 where
  pub ledger : LedgerState
  pub stands : TableState → List Event → Type 0
  pub sound : Type 0

-- a follower that has followed nothing, beside these tables: it holds stack 0 alone
pub record IsNew (tables : TableState) (follower : Following) : Type 0 where
  pub sound : follower.sound
  pub stacks : follower.ledger.stacks ≡ 1
  pub infos : follower.ledger.infos ≡ []
  pub events : follower.ledger.totals.events ≡ 0
  pub stands : follower.stands tables []

-- a follower may take what a line brings, beside tables that have the line
pub record MayTake (tables : TableState) (follower : Following) (step : Step) : Type 0 where
  pub sound : follower.sound
  pub taken : List Event
  pub stands : follower.stands tables taken
  pub can : CanTake follower.ledger step
  pub stacks : length tables.nodes + 1 ≡ follower.ledger.stacks + stacks_in step
  pub stack_held : HasHeldStack tables step
  pub room : 4 * follower.ledger.totals.events + least_length step ≤ 2 ^ 34

-- how many events a step has
abbrev pub events_in : Step → ℕ
events_in step.Nothing = 0
events_in step.Stack = 0
events_in (step.Info stack size) = 0
events_in (step.Event event) = 1

-- a follower took what a line brings, beside tables that have the line
pub record HasFollowed (tables : TableState) (old new : Following) (step : Step) : Type 0 where
  pub sound : new.sound
  pub stacks : new.ledger.stacks ≡ old.ledger.stacks + stacks_in step
  pub infos : new.ledger.infos ≡ old.ledger.infos ++ infos_in step
  pub events : new.ledger.totals.events ≤ old.ledger.totals.events + events_in step
  pub stands : (taken : List Event) → old.stands tables taken
      → new.stands tables (taken ++ option_to_list (event_of step))

-- a follower stands for what it stood for, and has the same ledger
pub record IsAsBefore (old new : Following) : Type 0 where
  pub ledger : new.ledger ≡ old.ledger
  pub sound : old.sound → new.sound
  pub stands : (tables : TableState) (taken : List Event) → old.stands tables taken
      → new.stands tables taken

-- an answer to an event tells this fault; where memory was wanting, none
abbrev pub AnswersFault : {T : Type 0} → Result T (LineRefusal EventFault) → Option EventFault
    → Type 0
AnswersFault (Ok answer) found = found ≡ None
AnswersFault (Err (Fault fault)) found = found ≡ Some fault
AnswersFault (Err NoMemory) found = Unit {0}

-- what a follower stands for stays so beside tables that have grown
abbrev pub GoesOn : Following → Type 0
GoesOn follower = (before after : TableState) (taken : List Event) → Continues before after
    → follower.stands before taken → follower.stands after taken

-- an answer to an event tells the fault that it has after the events that the follower stands for
abbrev pub AnswersEvent : {T : Type 0} → (TableState → List Event → Event → Option EventFault)
    → TableState → Following → Event → Result T (LineRefusal EventFault) → Type 0
AnswersEvent faults tables follower event answer =
    (taken : List Event) → follower.stands tables taken
    → AnswersFault answer (faults tables taken event)
