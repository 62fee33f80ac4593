-- The bytes that the counted events of a list leave live, as they were asked for and with what the
-- heap adds to them. The live bytes of a list of events are the sizes of its counted allocations
-- less those of its counted frees; the gross bytes are the same with the gross sizes.
use Rattle.std.specs.Prelude.{ℕ, ◌-◌, Bool, List, sum_by, if◌then◌else◌}
use Rattle.live_ledger.specs.declared.event.Event.{Event}
use Rattle.live_ledger.specs.ByInfo.{alloc_weight, free_weight}
use Rattle.live_ledger.specs.LedgerState.{HeldInfo}
use Rattle.massif_sample.specs.declared.options.MassifOptions.{MassifOptions}
use Rattle.massif_sample.specs.Gross.{gross}

-- the size of an info's blocks, and 0 in a stack that is ignored
abbrev pub heap_weight : (ℕ → Bool) → HeldInfo → ℕ
heap_weight ignored held = if ignored held.stack then 0 else held.size

-- their gross size
abbrev pub gross_weight : MassifOptions → (ℕ → Bool) → HeldInfo → ℕ
gross_weight options ignored held = if ignored held.stack then 0 else gross options held.size

-- what is allocated less what is freed, by the weight that an info gives its blocks
abbrev pub live_weight : (HeldInfo → ℕ) → List Event → ℕ
live_weight weight events = sum_by (alloc_weight weight) events - sum_by (free_weight weight) events

-- the live bytes
abbrev pub heap_total : (ℕ → Bool) → List Event → ℕ
heap_total ignored events = live_weight (heap_weight ignored) events

-- the same with the gross size of each block
abbrev pub gross_total : MassifOptions → (ℕ → Bool) → List Event → ℕ
gross_total options ignored events = live_weight (gross_weight options ignored) events
