-- The figures of a recording: what its events allocate, what they leave live, and the greatest
-- total. The blocks that are live after the events of an order, each with its thread, ID, size and
-- stack; the calls, the allocated bytes and the live bytes of the stacks that are counted; the
-- greatest total; what a thread does alone; the sum and the greatest of a figure over threads.
use Rattle.std.specs.Prelude.{ℕ, zero, suc, ◌+◌, Bool, true, ◌==◌, ◌&&◌, if◌then◌else◌, max, List, [], ◌∷◌}
use Rattle.record_scripts.specs.Events.{Event, allocation, free}
use Rattle.record_scripts.specs.Turns.{Turn}
use Rattle.record_book.specs.Actions.{Action, events_at}

-- a block that is live: the thread that allocated it, its ID there, its size in bytes, and the stack that allocated it
pub record Held : Type 0 where
  pub thread : ℕ
  pub id : ℕ
  pub size : ℕ
  pub ips : List ℕ

-- whether the block has a thread's ID
abbrev pub has_id : ℕ → ℕ → Held → Bool
has_id thread id block = block.thread == thread && block.id == id

-- live blocks without that of a thread's ID
abbrev pub without : ℕ → ℕ → List Held → List Held
without thread id [] = []
without thread id (block ∷ older) = if has_id thread id block then without thread id older
    else block ∷ without thread id older

-- the live blocks after an event. An allocation takes the place of a live block of the same ID,
-- which none in a script does
abbrev pub held_with : ℕ → Event → List Held → List Held
held_with thread (allocation id size ips) blocks
    = record { thread = thread; id = id; size = size; ips = ips } ∷ without thread id blocks
held_with thread (free id rejoined) blocks = without thread id blocks

-- the live blocks after actions that are listed from the last to the first
abbrev pub held_after : List Action → List Held
held_after [] = []
held_after (action ∷ before) = held_with action.thread action.event (held_after before)

-- blocks with a weight each
abbrev pub weigh : (Held → ℕ) → List Held → ℕ
weigh weight [] = 0
weigh weight (block ∷ older) = weight block + weigh weight older

-- actions with a weight each, which their events have
abbrev pub weigh_events : (Event → ℕ) → List Action → ℕ
weigh_events weight [] = 0
weigh_events weight (action ∷ before) = weight action.event + weigh_events weight before

-- the stacks that are counted: all of them
abbrev pub every : List ℕ → Bool
every ips = true

-- the bytes of a live block, and 1 for it, where its stack is counted
abbrev pub bytes_held : (List ℕ → Bool) → Held → ℕ
bytes_held counted block = if counted block.ips then block.size else 0

abbrev pub one_held : (List ℕ → Bool) → Held → ℕ
one_held counted block = if counted block.ips then 1 else 0

-- the bytes that an event allocates, and 1 for an allocation, where its stack is counted
abbrev pub bytes_asked : (List ℕ → Bool) → Event → ℕ
bytes_asked counted (allocation id size ips) = if counted ips then size else 0
bytes_asked counted (free id rejoined) = 0

abbrev pub one_asked : (List ℕ → Bool) → Event → ℕ
one_asked counted (allocation id size ips) = if counted ips then 1 else 0
one_asked counted (free id rejoined) = 0

-- how many allocations there are by the stacks that are counted, and their bytes
abbrev pub calls : (List ℕ → Bool) → List Action → ℕ
calls counted actions = weigh_events (one_asked counted) actions

abbrev pub allocated : (List ℕ → Bool) → List Action → ℕ
allocated counted actions = weigh_events (bytes_asked counted) actions

-- the bytes that are live after actions by the stacks that are counted, and in how many blocks
abbrev pub live_bytes : (List ℕ → Bool) → List Action → ℕ
live_bytes counted actions = weigh (bytes_held counted) (held_after actions)

abbrev pub live_count : (List ℕ → Bool) → List Action → ℕ
live_count counted actions = weigh (one_held counted) (held_after actions)

-- the greatest total: of the bytes that are live after each action
abbrev pub peak : List Action → ℕ
peak [] = 0
peak (action ∷ before) = max (live_bytes every (action ∷ before)) (peak before)

-- the actions before, and then these events of a thread, in their order
abbrev pub with_events : ℕ → List Event → List Action → List Action
with_events thread [] before = before
with_events thread (event ∷ events) before = with_events thread events
    (record { thread = thread; event = event } ∷ before)

-- what a thread does where it runs alone: the events of its script, listed from the last to the first
abbrev pub alone : List (List Turn) → ℕ → List Action
alone scripts thread = with_events thread (events_at scripts thread) []

-- the peak of a thread's script
abbrev pub own_peak : List (List Turn) → ℕ → ℕ
own_peak scripts thread = peak (alone scripts thread)

-- the sum of a figure of each of so many threads, and the greatest one
abbrev pub sum_below : (ℕ → ℕ) → ℕ → ℕ
sum_below figure zero = 0
sum_below figure (suc thread) = sum_below figure thread + figure thread

abbrev pub greatest_below : (ℕ → ℕ) → ℕ → ℕ
greatest_below figure zero = 0
greatest_below figure (suc thread) = max (greatest_below figure thread) (figure thread)
