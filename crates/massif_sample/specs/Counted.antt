-- Which events are counted: those of stacks that aren't ignored. An allocation or a free is counted
-- where its stack isn't ignored.
use Rattle.std.specs.Prelude.{ℕ, Bool, false, not}
use Rattle.live_ledger.specs.declared.event.Event.{Event}
use Rattle.live_ledger.specs.declared.event.Event.TheVariants.{Alloc, Free, Tick}

-- whether it is an allocation or a free of a stack that isn't ignored
abbrev pub counts : (ℕ → Bool) → Event → Bool
counts ignored (Alloc info stack size) = not (ignored stack)
counts ignored (Free info stack size) = not (ignored stack)
counts ignored (Tick ms) = false
