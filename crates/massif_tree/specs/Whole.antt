-- Stacks of which nothing is trimmed, for private clauses.
use Rattle.std.specs.Prelude.{◌≡◌, ℕ, ◌+◌, true, Bool, List, [], ◌∷◌, ◌++◌, Some, length, slice_get}
use Rattle.std.specs.Prelude.{◌^◌, ◌-◌, ◌<◌, ◌≤◌, drop, map, take, Option}
use Rattle.cost_tree.specs.FrameTexts.{StatesNames}
use Rattle.ht_trace.specs.StackFrames.{stack_frames, outer_frames}
use Rattle.ht_trace.specs.TableState.{TableState}
use Rattle.massif_tree.specs.FirstLists.{first_lists, first_texts}
use Rattle.massif_tree.specs.FunctionLists.{trimmed}
use Rattle.cost_tree.specs.Following.{following}
use Rattle.ht_trace.specs.declared.frame.FrameAt.{FrameAt}
use Rattle.ht_trace.specs.declared.frame.Style.TheVariants.{Addressed}
use Rattle.ht_trace.specs.FrameText.{frame_text}

-- stack n is trimmed to all its frames
abbrev pub IsWhole : TableState → List (List ℕ) → ℕ → Type 0
IsWhole tables alloc_fns n = trimmed tables alloc_fns n
    ≡ stack_frames tables.instructions tables.nodes n

-- each stack whose flag is set is; the flags are those of the stacks right before the next one
abbrev pub AreWhole : TableState → List (List ℕ) → ℕ → List Bool → Type 0
AreWhole tables alloc_fns next flags = (place n : ℕ) → place + next ≡ n + length flags
    → slice_get flags place ≡ Some true → IsWhole tables alloc_fns n

-- whatever names a closure with these answers states, stack n is trimmed to all its frames
abbrev pub IsSaidWhole : (List ℕ → Bool → Type 0) → TableState → ℕ → Type 0
IsSaidWhole answers tables n = (names : List (List ℕ)) → StatesNames answers names
    → IsWhole tables names n

-- and so is each stack whose flag is set
abbrev pub AreSaidWhole : (List ℕ → Bool → Type 0) → TableState → ℕ → List Bool → Type 0
AreSaidWhole answers tables next flags = (names : List (List ℕ)) → StatesNames answers names
    → AreWhole tables names next flags

-- the lists of so many stacks gain that of the next one
abbrev pub AddsList : (List ℕ → Bool → Type 0) → TableState → ℕ → ℕ → List (List (List ℕ))
    → List (List (List ℕ)) → Type 0
AddsList answers tables most stack old new = (names : List (List ℕ)) → StatesNames answers names
    → old ≡ first_lists tables names most stack
    → new ≡ old ++ first_texts tables names most stack ∷ []

-- the lists are those of the stacks before this one, which the tables have; there is room for its list
pub record IsNextStack (tables : TableState) (stack : ℕ) (lists : List (List (List ℕ))) : Type
    0 where
  pub held : stack ≤ length tables.nodes
  pub next : length lists ≡ stack
  pub few : stack < 2 ^ 32 - 1

-- there is one list more
abbrev pub HasOneMore : List (List (List ℕ)) → List (List (List ℕ)) → Type 0
HasOneMore old new = length new ≡ length old + 1

-- and it is that of the next stack
pub record HasAdded (answers : List ℕ → Bool → Type 0) (tables : TableState) (most stack : ℕ)
    (old new : List (List (List ℕ))) : Type 0 where
  pub added : AddsList answers tables most stack old new
  pub count : HasOneMore old new

-- a list more: the texts of the frames from a place on, and then those of an earlier list, if any; at most so many
abbrev pub AppendsFrom : TableState → List FrameAt → ℕ → ℕ → Option ℕ → List (List (List ℕ))
    → List (List (List ℕ)) → Type 0
AppendsFrom tables frames front most next old new = new ≡ old
    ++ take most (map (frame_text Addressed tables) (drop front frames) ++ following old next) ∷ []

-- these are the frames of a stack's own node; those of the stack that it is called from follow
abbrev pub HasOwnFrames : TableState → ℕ → List FrameAt → ℕ → Type 0
HasOwnFrames tables stack own caller = stack_frames tables.instructions tables.nodes stack
    ≡ own ++ outer_frames tables.instructions tables.nodes caller

-- the flag is that of a stack, where the flags are those of the stacks right before the next one
abbrev pub IsFlagOf : List Bool → ℕ → ℕ → Bool → Type 0
IsFlagOf flags next stack flag = (place : ℕ) × (place + next ≡ stack + length flags)
    × (slice_get flags place ≡ Some flag)
