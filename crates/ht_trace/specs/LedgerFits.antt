-- A ledger that is kept beside the tables has their stacks and infos, and room for the next step.
use Rattle.std.specs.Prelude.{◌≡◌, ℕ, ◌+◌, ◌-◌, ◌^◌, ◌<◌, List, [], ◌∷◌, ◌++◌, length}
use Rattle.live_ledger.specs.declared.event.Event.{Event}
use Rattle.live_ledger.specs.declared.event.Event.TheVariants.{Alloc, Free, Tick}
use Rattle.live_ledger.specs.LedgerState.{HeldInfo, LedgerState, IsHeld}
use Rattle.ht_trace.specs.declared.step.Step.{Step}
use Rattle.ht_trace.specs.declared.step.Step.TheVariants as step
use Rattle.ht_trace.specs.TableState.{TableState}

-- the ledger holds as many stacks as the tables, stack 0 among them, and the same infos
pub record IsBeside (tables : TableState) (ledger : LedgerState) : Type 0 where
  pub stacks : ledger.stacks ≡ length tables.nodes + 1
  pub infos : ledger.infos ≡ tables.infos

-- the ledger has room for the step's stack or info, and holds the stack of the info, or the event's info with the
-- event's stack and size
abbrev pub CanTake : LedgerState → Step → Type 0
CanTake ledger step.Nothing = Unit {0}
CanTake ledger step.Stack = ledger.stacks < 2 ^ 32 - 1
CanTake ledger (step.Info stack size) = (length ledger.infos < 2 ^ 32 - 1) × (stack < ledger.stacks)
CanTake ledger (step.Event event) = IsHeld ledger event

-- how many stacks a step adds
abbrev pub stacks_in : Step → ℕ
stacks_in step.Nothing = 0
stacks_in step.Stack = 1
stacks_in (step.Info stack size) = 0
stacks_in (step.Event event) = 0

-- the infos that a step adds
abbrev pub infos_in : Step → List HeldInfo
infos_in step.Nothing = []
infos_in step.Stack = []
infos_in (step.Info stack size) = record { stack = stack; size = size } ∷ []
infos_in (step.Event event) = []

-- the tables have grown by the step
pub record Grows (old : TableState) (step : Step) (new : TableState) : Type 0 where
  pub stacks : length new.nodes ≡ length old.nodes + stacks_in step
  pub infos : new.infos ≡ old.infos ++ infos_in step

-- the bytes that the line of an event has at least, without its line feed
abbrev pub least_length_of : Event → ℕ
least_length_of (Alloc info stack size) = 3
least_length_of (Free info stack size) = 3
least_length_of (Tick ms) = 3

-- the bytes that the line of a step has at least
abbrev pub least_length : Step → ℕ
least_length step.Nothing = 0
least_length step.Stack = 0
least_length (step.Info stack size) = 0
least_length (step.Event event) = least_length_of event
