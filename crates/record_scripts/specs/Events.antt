-- The events of scripts. The events of a turn are its allocation, its free, or its free and then
-- its allocation.
use Rattle.std.specs.Prelude.{ℕ, Bool, true, false, List, [], ◌∷◌, length, flat_map, sum_by}
use Rattle.record_scripts.specs.Turns.{Turn, allocates, frees, reallocates}

-- a block is allocated, or freed; `rejoined` says of a free that the allocation of the same
-- reallocation is the next event
pub data Event : Type 0 where
  allocation : (id size : ℕ) (ips : List ℕ) → Event
  free : (id : ℕ) (rejoined : Bool) → Event

-- the events of a turn, in their order
abbrev pub events_of_turn : Turn → List Event
events_of_turn (allocates id size ips) = allocation id size ips ∷ []
events_of_turn (frees id) = free id false ∷ []
events_of_turn (reallocates id size ips) = free id true ∷ allocation id size ips ∷ []

-- the events of a script
abbrev pub events_of : List Turn → List Event
events_of script = flat_map events_of_turn script

-- how many events all scripts have together
abbrev pub event_count : List (List Turn) → ℕ
event_count scripts = sum_by (λ script. length (events_of script)) scripts
