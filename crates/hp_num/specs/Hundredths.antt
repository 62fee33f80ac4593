-- The share that a part is of a whole is the nearest whole number of hundredths of a percent, half
-- up, and 0 of nothing.
use Rattle.std.specs.Prelude.{ℕ, ◌+◌, ◌*◌, ◌/◌, nat_eq, if◌then◌else◌}

-- the hundredths of a percent that part is of the whole: the nearest whole number, half up, and 0 of nothing
unfoldable pub hundredths_of : ℕ → ℕ → ℕ
hundredths_of part whole = if nat_eq whole 0 then 0 else (20000 * part + whole) / (2 * whole)
