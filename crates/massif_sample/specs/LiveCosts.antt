-- What the stacks of a ledger cost, for private clauses.
use Rattle.std.specs.Prelude.{ℕ, Bool, false, List, slice_index_or, if◌then◌else◌}
use Rattle.live_ledger.specs.LedgerState.{LedgerState, figures_at}

-- whether a stack was judged to be ignored
abbrev pub is_judged : List Bool → ℕ → Bool
is_judged judged stack = slice_index_or judged stack false

-- a stack's live bytes, and 0 where it is ignored
abbrev pub live_cost : List Bool → LedgerState → ℕ → ℕ
live_cost judged ledger stack = if is_judged judged stack then 0
    else (figures_at ledger stack).live
