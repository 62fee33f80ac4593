-- The sums that a stack keeps, and the figures that follow from them.
use Rattle.std.specs.Prelude.{ℕ, ◌+◌, ◌*◌, ◌-◌, ◌^◌, ◌<◌, ◌≤◌, nat_lt, List, length, map, slice_index_or, if◌then◌else◌}
use Rattle.dhat_metrics.specs.declared.figures.LifeFigures.{LifeFigures}
use Rattle.dhat_metrics.specs.declared.life.Life.{Life}
use Rattle.dhat_metrics.specs.LifeState.{LifeState}

-- the sums of a stack without events
abbrev pub no_sums : Life
no_sums = record {
  live = 0;
  blocks = 0;
  allocated = 0;
  calls = 0;
  began = 0;
  ended = 0;
  most_bytes = 0;
  most_blocks = 0;
}

-- the sums with an allocation
abbrev pub with_alloc : Life → ℕ → ℕ → Life
with_alloc life size time = record {
  live = life.live + size;
  blocks = life.blocks + 1;
  allocated = life.allocated + size;
  calls = life.calls + 1;
  began = life.began + time;
  ended = life.ended;
  most_bytes = if nat_lt life.most_bytes (life.live + size) then life.live + size
      else life.most_bytes;
  most_blocks = if nat_lt life.most_bytes (life.live + size) then life.blocks + 1
      else life.most_blocks;
}

-- the sums with a free
abbrev pub with_free : Life → ℕ → ℕ → Life
with_free life size time = record life
    { live = life.live - size; blocks = life.blocks - 1; ended = life.ended + time }

-- the figures after so many events
abbrev pub figures_of : ℕ → Life → LifeFigures
figures_of events life = record {
  tb = life.allocated;
  tbk = life.calls;
  tl = life.ended + events * life.blocks - life.began;
  mb = life.most_bytes;
  mbk = life.most_blocks;
  eb = life.live;
  ebk = life.blocks;
}

-- what holds of a stack's sums after so many events: its blocks came before the last event, and all of them lived no
-- longer than if one had come at each event and none had gone
pub record IsLife (life : Life) (events : ℕ) : Type 0 where
  pub lived : life.began ≤ life.ended + events * life.blocks
  pub lived_within : 2 * (life.ended + events * life.blocks) + events
      ≤ 2 * life.began + events * events
  pub times_within : 2 * (life.began + life.ended) ≤ events * events + events
  pub live_within : life.live ≤ life.most_bytes
  pub most_within : life.most_bytes ≤ life.allocated
  pub allocated_within : life.allocated ≤ 2 ^ 62
  pub blocks_within : life.blocks ≤ life.calls
  pub most_blocks_within : life.most_blocks ≤ life.calls
  pub calls_within : life.calls ≤ events

-- the sums of a stack by its number; one that isn't held yet has none
abbrev pub life_at : List Life → ℕ → Life
life_at lives stack = slice_index_or lives stack no_sums

-- the state that contracts see
abbrev pub state_of : ℕ → List Life → LifeState
state_of events lives = record { events = events; figures = map (figures_of events) lives }

-- what the sums of all stacks keep
pub record AreLives (events : ℕ) (lives : List Life) : Type 0 where
  pub stack_0 : 0 < length lives
  pub stacks_within : length lives < 2 ^ 32
  pub events_within : events ≤ 2 ^ 32
  pub each_stack : (stack : ℕ) → IsLife (life_at lives stack) events
