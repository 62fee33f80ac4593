-- The figures that follow from sums of allocations and frees, for private clauses.
use Rattle.std.specs.Prelude.{ℕ, ◌+◌, ◌-◌, ◌≤◌}
use Rattle.live_ledger.specs.declared.figures.Figures.{Figures}
use Rattle.live_ledger.specs.declared.sums.Sums.{Sums}
use Rattle.live_ledger.specs.declared.totals.Totals.{Totals}

-- the sums over no event
abbrev pub no_sums : Sums
no_sums = record { calls = 0; allocated = 0; frees = 0; freed = 0; temporary = 0 }

-- the sums with one more allocation
abbrev pub with_alloc : Sums → ℕ → Sums
with_alloc sums size = record sums { calls = sums.calls + 1; allocated = sums.allocated + size }

-- the sums with one more free, which ended so many temporary allocations
abbrev pub with_free : Sums → ℕ → ℕ → Sums
with_free sums size temporary = record sums
    { frees = sums.frees + 1; freed = sums.freed + size; temporary = sums.temporary + temporary }

-- the figures of a whole trace
abbrev pub totals_of : Sums → Totals
totals_of sums = record {
  events = sums.calls + sums.frees;
  calls = sums.calls;
  temporary = sums.temporary;
  allocated = sums.allocated;
  live = sums.allocated - sums.freed;
  blocks = sums.calls - sums.frees;
}

-- the figures of one stack
abbrev pub figures_of : Sums → Figures
figures_of sums = record {
  live = sums.allocated - sums.freed;
  blocks = sums.calls - sums.frees;
  calls = sums.calls;
  temporary = sums.temporary;
  allocated = sums.allocated;
}

-- no more is freed than was allocated, and each temporary allocation was freed
pub record IsPaired (sums : Sums) : Type 0 where
  pub freed_within : sums.freed ≤ sums.allocated
  pub frees_within : sums.frees ≤ sums.calls
  pub temporary_within : sums.temporary ≤ sums.frees
