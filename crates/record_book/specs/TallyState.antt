-- What a tally stands for: the sizes of the live blocks, and the figures of the events so far.
use Rattle.std.specs.Prelude.{◌≡◌, ℕ, ◌^◌, ◌≤◌, Bool, if◌then◌else◌, List, [], ◌∷◌, Option, None, Some}
use Rattle.std.specs.HashMap.{get}
use Rattle.record_scripts.specs.declared.script_line.ScriptLine.{ScriptLine}
use Rattle.record_scripts.specs.Events.{allocation, free}
use Rattle.record_scripts.specs.ScriptTurns.{turn_said}
use Rattle.record_book.specs.declared.tally.Tally.{Tally}
use Rattle.record_book.specs.Actions.{Action}
use Rattle.record_book.specs.Figures.{Held, allocated, calls, every, has_id, held_after, live_bytes, live_count, peak}
use Rattle.record_book.specs.LiveBlocks.{same_key}
use Rattle.record_book.specs.TraceState.{with_turn}

-- the size that is kept for a thread's ID
abbrev pub size_at : Tally → ℕ → ℕ → Option ℕ
size_at tally thread id = get same_key tally.live (thread, id)

-- the size of the live block of a thread's ID
abbrev pub size_in : List Held → ℕ → ℕ → Option ℕ
size_in [] thread id = None
size_in (block ∷ older) thread id = if has_id thread id block then Some block.size
    else size_in older thread id

-- the figures are those of actions
pub record IsTally (tally : Tally) (actions : List Action) : Type 0 where
  pub live : (thread id : ℕ) → size_at tally thread id ≡ size_in (held_after actions) thread id
  pub total : tally.total ≡ live_bytes every actions
  pub blocks : tally.blocks ≡ live_count every actions
  pub calls_is : tally.calls ≡ calls every actions
  pub allocated_is : tally.allocated ≡ allocated every actions
  pub peak_is : tally.peak ≡ peak actions

-- the figures are now those with the turn that a line says, by any stack
abbrev pub CountsTurn : Tally → Tally → ℕ → ScriptLine → Type 0
CountsTurn old new thread line = (ips : List ℕ) (actions : List Action) → IsTally old actions
    → IsTally new (with_turn thread (turn_said line ips) actions)

-- the same with an allocation, and with a free
abbrev pub CountsAllocation : Tally → Tally → ℕ → ℕ → ℕ → Type 0
CountsAllocation old new thread id size = (ips : List ℕ) (actions : List Action)
    → IsTally old actions
    → IsTally new (record { thread = thread; event = allocation id size ips } ∷ actions)

abbrev pub CountsFree : Tally → Tally → ℕ → ℕ → Type 0
CountsFree old new thread id = (rejoined : Bool) (actions : List Action) → IsTally old actions
    → IsTally new (record { thread = thread; event = free id rejoined } ∷ actions)

-- it is the tally of some actions, and has space for one turn more
pub record HasCountRoom (tally : Tally) : Type 0 where
  pub tallied : (actions : List Action) × IsTally tally actions
  pub few_bytes : tally.allocated ≤ 2 ^ 62
  pub few_calls : tally.calls ≤ 2 ^ 62
