-- The mark of the peak, for private clauses.
use Rattle.std.specs.Prelude.{ℕ, ◌+◌, nat_lt, if◌then◌else◌}
use Rattle.peak_costs.specs.declared.mark.Mark.{Mark}

-- the mark before any event
abbrev pub first_mark : Mark
first_mark = record { total = 0; moment = 0; counter = 1 }

-- the mark after the total that stands after so many events
abbrev pub raised : Mark → ℕ → ℕ → Mark
raised mark total events = if nat_lt mark.total total
    then record { total = total; moment = events; counter = mark.counter + 1 } else mark
