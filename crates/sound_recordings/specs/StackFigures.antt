-- The calls, frees and bytes of a trace's events at the stacks that are counted.
use Rattle.std.specs.Prelude.{ℕ, Bool, List, if◌then◌else◌, sum_by}
use Rattle.live_ledger.specs.declared.event.Event.{Event}
use Rattle.live_ledger.specs.declared.event.Event.TheVariants.{Alloc, Free, Tick}

-- 1 for an allocation at such a stack, and its bytes
abbrev pub one_called : (ℕ → Bool) → Event → ℕ
one_called at (Alloc info stack size) = if at stack then 1 else 0
one_called at (Free info stack size) = 0
one_called at (Tick ms) = 0

abbrev pub bytes_called : (ℕ → Bool) → Event → ℕ
bytes_called at (Alloc info stack size) = if at stack then size else 0
bytes_called at (Free info stack size) = 0
bytes_called at (Tick ms) = 0

-- the same of a free
abbrev pub one_freed : (ℕ → Bool) → Event → ℕ
one_freed at (Alloc info stack size) = 0
one_freed at (Free info stack size) = if at stack then 1 else 0
one_freed at (Tick ms) = 0

abbrev pub bytes_freed : (ℕ → Bool) → Event → ℕ
bytes_freed at (Alloc info stack size) = 0
bytes_freed at (Free info stack size) = if at stack then size else 0
bytes_freed at (Tick ms) = 0

-- how many allocations and frees there are at such stacks, and their bytes
abbrev pub calls_at : (ℕ → Bool) → List Event → ℕ
calls_at at events = sum_by (one_called at) events

abbrev pub allocated_at : (ℕ → Bool) → List Event → ℕ
allocated_at at events = sum_by (bytes_called at) events

abbrev pub frees_at : (ℕ → Bool) → List Event → ℕ
frees_at at events = sum_by (one_freed at) events

abbrev pub freed_at : (ℕ → Bool) → List Event → ℕ
freed_at at events = sum_by (bytes_freed at) events
