-- What one event changes in lifetimes. Over an allocation or a free each block that was live has
-- lived one event more; the event's stack alone gains or loses a block.
use Rattle.std.specs.Prelude.{◌≡◌, ℕ, ◌+◌, ◌<◌, nat_lt, Bool, length, if◌then◌else◌}
use Rattle.live_ledger.specs.declared.event.Event.{Event}
use Rattle.live_ledger.specs.declared.event.Event.TheVariants.{Alloc, Free, Tick}
use Rattle.live_ledger.specs.InStack.{alloc_size_in, free_size_in, is_alloc_in, is_free_in}
use Rattle.dhat_metrics.specs.declared.figures.LifeFigures.{LifeFigures}
use Rattle.dhat_metrics.specs.LifeState.{LifeState, figures_at}

-- the event's stack is held; a clock value has none
abbrev pub IsOfHeld : LifeState → Event → Type 0
IsOfHeld state (Alloc info stack size) = stack < length state.figures
IsOfHeld state (Free info stack size) = stack < length state.figures
IsOfHeld state (Tick ms) = Unit {0}

-- 1 where it holds
abbrev pub one_if : Bool → ℕ
one_if test = if test then 1 else 0

-- a stack's figures over an allocation or a free of any stack: each block that was live has lived one event more
pub record Moves (old new : LifeFigures) (stack : ℕ) (event : Event) : Type 0 where
  pub tb : new.tb ≡ old.tb + alloc_size_in stack event
  pub tbk : new.tbk ≡ old.tbk + one_if (is_alloc_in stack event)
  pub tl : new.tl ≡ old.tl + old.ebk
  pub mb : new.mb ≡ (if nat_lt old.mb new.eb then new.eb else old.mb)
  pub mbk : new.mbk ≡ (if nat_lt old.mb new.eb then new.ebk else old.mbk)
  pub eb : new.eb + free_size_in stack event ≡ old.eb + alloc_size_in stack event
  pub ebk : new.ebk + one_if (is_free_in stack event) ≡ old.ebk + one_if (is_alloc_in stack event)

-- what an event changes of each stack, held or not; a clock value changes nothing
abbrev pub Changes : LifeState → LifeState → Event → Type 0
Changes old new (Alloc info stack size) = (n : ℕ)
    → Moves (figures_at old n) (figures_at new n) n (Alloc info stack size)
Changes old new (Free info stack size) = (n : ℕ)
    → Moves (figures_at old n) (figures_at new n) n (Free info stack size)
Changes old new (Tick ms) = new ≡ old
