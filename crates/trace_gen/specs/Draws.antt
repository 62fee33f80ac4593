-- The states that a seed goes through, and the number below a bound that each gives.
use Rattle.std.specs.Prelude.{ℕ, zero, suc, ◌+◌, ◌*◌, ◌/◌, ◌%◌}

-- the state behind another
abbrev pub next_state : ℕ → ℕ
next_state state = (1103515245 * state + 12345) % 2147483648

-- the state after so many draws
abbrev pub state_after : ℕ → ℕ → ℕ
state_after seed zero = seed
state_after seed (suc draws) = next_state (state_after seed draws)

-- the number below a bound that a state gives
abbrev pub number_below : ℕ → ℕ → ℕ
number_below bound state = state / 65536 % bound

-- the number below a bound that the draw behind so many others gives
abbrev pub draw : ℕ → ℕ → ℕ → ℕ
draw seed draws bound = number_below bound (next_state (state_after seed draws))
