-- A count of faults rose if it is one further than before, or stands at 2^64 - 1, where it stays.
use Rattle.std.specs.Prelude.{◌+◌, ◌-◌, ◌^◌, ◌≤◌, ℕ, min}

-- a count one further: it stays at the end of a `u64`
abbrev pub next_count : ℕ → ℕ
next_count count = min (count + 1) (2 ^ 64 - 1)

-- a count of faults rose, or stands at the end of a `u64`
abbrev pub Faulted : ℕ → ℕ → Type 0
Faulted before now = next_count before ≤ now
