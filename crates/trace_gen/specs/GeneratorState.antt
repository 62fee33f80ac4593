-- Where a generator stands: what it has drawn, which blocks are live, and which lines are yet to be
-- made. It gives the next line, or the event that it says, where the lines yet to be made are that
-- line and those that then are.
use Rattle.std.specs.Prelude.{◌≡◌, ℕ, ◌+◌, ◌-◌, ◌*◌, ◌<◌, ◌≤◌, ◌==◌, List, [], ◌∷◌, ◌++◌, codes, length, slice_index_or}
use Rattle.std.specs.Prelude.{Bool, true, false, if◌then◌else◌, Option, Some, None}
use Rattle.hp_outside.specs.WholeLines.{text_of_lines}
use Rattle.trace_gen.specs.Sizes.{Sizes, sizes_of}
use Rattle.trace_gen.specs.declared.event.GeneratedEvent.{GeneratedEvent}
use Rattle.trace_gen.specs.declared.generator.Generator.{Generator}
use Rattle.trace_gen.specs.declared.generator.Group.{Group}
use Rattle.trace_gen.specs.declared.generator.Group.TheVariants.{Version, Command, Module, Names, Instructions, Nodes}
use Rattle.trace_gen.specs.declared.generator.Group.TheVariants.{Infos, Events}
use Rattle.trace_gen.specs.Draws.{state_after}
use Rattle.trace_gen.specs.Moves.{Move, allocated, freed, moves}
use Rattle.trace_gen.specs.PutLine.{PutsLine}
use Rattle.trace_gen.specs.GeneratedTrace.{event_line, info_line, instruction_line, lines_from, move_line, name_line, node_line}

-- the lines from one of a group on
abbrev pub events_left : Sizes → ℕ → List (List ℕ)
events_left sizes next = lines_from (event_line sizes) next (sizes.events - next)

abbrev pub infos_left : Sizes → ℕ → List (List ℕ)
infos_left sizes next = lines_from (info_line sizes) next (sizes.stacks - next)
    ++ events_left sizes 0

abbrev pub nodes_left : Sizes → ℕ → List (List ℕ)
nodes_left sizes next = lines_from (node_line sizes) next (sizes.stacks - next)
    ++ infos_left sizes 0

abbrev pub instructions_left : Sizes → ℕ → List (List ℕ)
instructions_left sizes next = lines_from instruction_line next (sizes.stacks - next)
    ++ nodes_left sizes 0

abbrev pub names_left : Sizes → ℕ → List (List ℕ)
names_left sizes next = lines_from name_line next (sizes.stacks - next) ++ instructions_left sizes 0

abbrev pub lines_left : Sizes → Group → ℕ → List (List ℕ)
lines_left sizes Version next = codes "v 10500 2" ∷ codes "X gen" ∷ codes "s m" ∷ names_left sizes 0
lines_left sizes Command next = codes "X gen" ∷ codes "s m" ∷ names_left sizes 0
lines_left sizes Module next = codes "s m" ∷ names_left sizes 0
lines_left sizes Names next = names_left sizes next
lines_left sizes Instructions next = instructions_left sizes next
lines_left sizes Nodes next = nodes_left sizes next
lines_left sizes Infos next = infos_left sizes next
lines_left sizes Events next = events_left sizes next

-- the lines that a generator has yet to make, and their text
abbrev pub lines_yet : Generator → List (List ℕ)
lines_yet generator = lines_left (sizes_of generator.options) generator.group generator.next

abbrev pub text_left : Generator → List ℕ
text_left generator = text_of_lines (lines_yet generator)

-- a group has a line at this place; behind the last event there is none
abbrev pub IsWithin : Sizes → Group → ℕ → Type 0
IsWithin sizes Version next = next ≡ 0
IsWithin sizes Command next = next ≡ 0
IsWithin sizes Module next = next ≡ 0
IsWithin sizes Events next = next ≤ sizes.events
IsWithin sizes _ next = next < sizes.stacks

-- the draws and the events before one of a group
abbrev pub draws_before : Sizes → Group → ℕ → ℕ
draws_before sizes Nodes next = next
draws_before sizes Infos next = sizes.stacks + next
draws_before sizes Events next = 2 * sizes.stacks + 2 * next
draws_before sizes _ next = 0

abbrev pub events_before : Group → ℕ → ℕ
events_before Events next = next
events_before _ next = 0

-- the live blocks of each info are those of the first so many events
abbrev pub BlocksAre : Sizes → List ℕ → ℕ → Type 0
BlocksAre sizes live events =
    (info : ℕ) → info < sizes.stacks
    → slice_index_or live info 0 + freed info (moves sizes events)
    ≡ allocated info (moves sizes events)

-- at a place, the state and the live blocks of each info are those of the draws and events before
pub record Stands (sizes : Sizes) (group : Group) (next state : ℕ) (live : List ℕ) : Type 0 where
  pub within : IsWithin sizes group next
  pub state_is : state ≡ state_after sizes.seed (draws_before sizes group next)
  pub small : state < 2147483648
  pub infos : length live ≡ sizes.stacks
  pub blocks : BlocksAre sizes live (events_before group next)

abbrev pub IsAt : Generator → Type 0
IsAt generator = Stands (sizes_of generator.options) generator.group generator.next generator.state
    generator.live.items

-- where a generator stands behind a line of a group that has one for each stack
abbrev pub behind : Generator → Group → Generator
behind generator following =
    if generator.next + 1 == generator.options.stacks
    then record generator { group = following; next = 0 }
    else record generator { next = generator.next + 1 }

-- the next line was made behind some bytes
pub record MakesLine (old new : Generator) (before now : List ℕ) : Type 0 where
  pub at : IsAt new
  pub line : List ℕ
  pub lines : lines_yet old ≡ line ∷ lines_yet new
  pub put : PutsLine before now line

-- so it was, or there is none
abbrev pub Gives : Generator → Generator → List ℕ → List ℕ → Bool → Type 0
Gives old new before now true = MakesLine old new before now
Gives old new before now false = (lines_yet old ≡ []) × (new ≡ old) × (now ≡ before)

-- what an event says
abbrev pub move_of : GeneratedEvent → Move
move_of event = record { info = event.info; frees = event.frees }

-- the next line is that of this event, and counts as made
pub record DrawsEvent (old new : Generator) (event : GeneratedEvent) : Type 0 where
  pub at : IsAt new
  pub lines : lines_yet old ≡ move_line (move_of event) ∷ lines_yet new
  pub short : length (move_line (move_of event)) ≤ 40

-- so it is, or the next line isn't that of an event, or there is none
abbrev pub Draws : Generator → Generator → Option GeneratedEvent → Type 0
Draws old new (Some event) = DrawsEvent old new event
Draws old new None = (new ≡ old) × (old.group ≡ Events → lines_yet old ≡ [])
