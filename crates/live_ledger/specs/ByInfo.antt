-- Sums over the events of a list, told by their infos. A sum over a trace's allocations, told by
-- the weight of each info and how often it was allocated from.
use Rattle.std.specs.Prelude.{ℕ, ◌*◌, ◌≤◌, ◌^◌, List, sum_by}
use Rattle.std.specs.List.{zip}
use Rattle.live_ledger.specs.declared.event.Event.{Event}
use Rattle.live_ledger.specs.declared.event.Event.TheVariants.{Alloc, Free, Tick}
use Rattle.live_ledger.specs.InStack.{allocated_in, calls_in, freed_in, frees_in}
use Rattle.live_ledger.specs.LedgerState.{HeldInfo}
use Rattle.live_ledger.specs.LiveBytes.{allocated_bytes}

-- the weight of an allocation by its info, and nothing for another event
abbrev pub alloc_weight : (HeldInfo → ℕ) → Event → ℕ
alloc_weight weight (Alloc info stack size) = weight (record { stack = stack; size = size })
alloc_weight weight (Free info stack size) = 0
alloc_weight weight (Tick ms) = 0

-- the weight of a free by its info, and nothing for another event
abbrev pub free_weight : (HeldInfo → ℕ) → Event → ℕ
free_weight weight (Alloc info stack size) = 0
free_weight weight (Free info stack size) = weight (record { stack = stack; size = size })
free_weight weight (Tick ms) = 0

-- the weights of the infos, each so many times
abbrev pub weighed : (HeldInfo → ℕ) → List HeldInfo → List ℕ → ℕ
weighed weight infos times = sum_by (λ pair. weight pair.0 * pair.1) (zip infos times)

-- a stack's frees in a list are no more than its allocations, and the allocated bytes of all stay within 2^62
pub record AreBalanced (stack : ℕ) (events : List Event) : Type 0 where
  pub bytes : freed_in stack events ≤ allocated_in stack events
  pub blocks : frees_in stack events ≤ calls_in stack events
  pub allocated : allocated_bytes events ≤ 2 ^ 62
