-- The numbers of stacks in a recorded trace. The number of a stack is its place among all suffixes
-- of the stacks so far, from the shortest of each on, without repeats.
use Rattle.std.specs.Prelude.{ℕ, ◌+◌, ◌==◌, if◌then◌else◌, List, [], ◌∷◌, length}
use Rattle.std.specs.Str.{bytes_eq}
use Rattle.record_scripts.specs.Events.{Event, allocation, free}
use Rattle.record_book.specs.Actions.{Action}

-- for different stacks listed from the last to the first: the number of a stack, from 1; 0 where it isn't there
abbrev pub number_in : List (List ℕ) → List ℕ → ℕ
number_in [] stack = 0
number_in (known ∷ older) stack = if bytes_eq known stack then length older + 1
    else number_in older stack

-- one stack more, where it isn't there
abbrev pub with_stack : List (List ℕ) → List ℕ → List (List ℕ)
with_stack known stack = if number_in known stack == 0 then stack ∷ known else known

-- all suffixes of a stack more that aren't empty, the shortest first
abbrev pub with_suffixes : List (List ℕ) → List ℕ → List (List ℕ)
with_suffixes known [] = known
with_suffixes known (ip ∷ outer) = with_stack (with_suffixes known outer) (ip ∷ outer)

-- those of the stack of an event
abbrev pub stacks_with : List (List ℕ) → Event → List (List ℕ)
stacks_with known (allocation id size ips) = with_suffixes known ips
stacks_with known (free id rejoined) = known

-- the stacks after actions that are listed from the last to the first
abbrev pub stacks_after : List Action → List (List ℕ)
stacks_after [] = []
stacks_after (action ∷ before) = stacks_with (stacks_after before) action.event
