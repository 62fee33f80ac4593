-- Places in a list of events: place k is behind the k-th allocation or free, counted or not; clock
-- values behind it don't belong to it.
use Rattle.std.specs.Prelude.{ℕ, zero, suc, Bool, List, [], ◌∷◌}
use Rattle.live_ledger.specs.declared.event.Event.{Event}
use Rattle.live_ledger.specs.declared.event.Event.TheVariants.{Alloc, Free, Tick}
use Rattle.massif_sample.specs.declared.options.MassifOptions.{MassifOptions}
use Rattle.massif_sample.specs.HeapTotals.{gross_total, heap_total}
use Rattle.massif_sample.specs.Times.{time_of}

-- the events up to the k-th allocation or free, the clock values before it among them; none for k = 0
unfoldable pub up_to : ℕ → List Event → List Event
up_to zero events = []
up_to (suc k) [] = []
up_to (suc k) (Alloc info stack size ∷ events) = Alloc info stack size ∷ up_to k events
up_to (suc k) (Free info stack size ∷ events) = Free info stack size ∷ up_to k events
up_to (suc k) (Tick ms ∷ events) = Tick ms ∷ up_to (suc k) events

-- the time at a place
abbrev pub time_at : MassifOptions → (ℕ → Bool) → List Event → ℕ → ℕ
time_at options ignored events k = time_of options ignored (up_to k events)

-- the live bytes there
abbrev pub heap_at : (ℕ → Bool) → List Event → ℕ → ℕ
heap_at ignored events k = heap_total ignored (up_to k events)

-- and the same with the gross size of each block
abbrev pub gross_at : MassifOptions → (ℕ → Bool) → List Event → ℕ → ℕ
gross_at options ignored events k = gross_total options ignored (up_to k events)
