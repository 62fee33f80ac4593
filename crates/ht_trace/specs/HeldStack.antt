-- That what a line brings speaks of a stack that is held.
use Rattle.std.specs.Prelude.{◌≤◌, length}
use Rattle.live_ledger.specs.declared.event.Event.{Event}
use Rattle.live_ledger.specs.declared.event.Event.TheVariants.{Alloc, Free, Tick}
use Rattle.ht_trace.specs.declared.step.Step.{Step}
use Rattle.ht_trace.specs.declared.step.Step.TheVariants as step
use Rattle.ht_trace.specs.TableState.{TableState}

abbrev pub HasHeldEvent : TableState → Event → Type 0
HasHeldEvent tables (Alloc info stack size) = stack ≤ length tables.nodes
HasHeldEvent tables (Free info stack size) = stack ≤ length tables.nodes
HasHeldEvent tables (Tick ms) = Unit {0}

-- the stack of an info, an allocation or a free is one of the tables
abbrev pub HasHeldStack : TableState → Step → Type 0
HasHeldStack tables step.Nothing = Unit {0}
HasHeldStack tables step.Stack = Unit {0}
HasHeldStack tables (step.Info stack size) = stack ≤ length tables.nodes
HasHeldStack tables (step.Event event) = HasHeldEvent tables event
